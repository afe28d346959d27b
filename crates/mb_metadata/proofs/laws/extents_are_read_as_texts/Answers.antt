use Rattle.mb_metadata.proofs.Common.{bounds_text, center_text, codes, document_edits, names_edited, option_map, refl, said}
use Rattle.mb_metadata.proofs.ReadBackLemmas.{read_at}
use Rattle.mb_metadata.proofs.laws.extents_are_read_as_texts.Goals as goal

pub returns-clause-bounds : goal.returns-clause-bounds
returns-clause-bounds c = λ id s t. record {
  text = said (names_edited s.metadata (document_edits t)) (codes "bounds");
  is = refl;
  read = read_at s.metadata t (codes "bounds") (option_map bounds_text t.bounds) (λ had. refl);
}

pub returns-clause-center : goal.returns-clause-center
returns-clause-center c = λ id s t. record {
  text = said (names_edited s.metadata (document_edits t)) (codes "center");
  is = refl;
  read = read_at s.metadata t (codes "center") (option_map center_text t.center) (λ had. refl);
}
