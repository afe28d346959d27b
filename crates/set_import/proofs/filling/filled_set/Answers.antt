use Rattle.set_import.proofs.Common.{document_edits, edits_loaded, Held, IsLoadedFrom, subst, sym, true≢false}
use Rattle.set_import.proofs.filling.filled_set.Goals as goal

pub returns-in-Ok-with_document-clause-filled : goal.returns-in-Ok-with_document-clause-filled
returns-in-Ok-with_document-clause-filled g c = record {
  between = c.in-Ok.put.0;
  put = c.in-Ok.ensures.put;
  named = c.in-Ok-with_document.ensures;
}

pub returns-in-Ok-with_document-clause-loaded : goal.returns-in-Ok-with_document-clause-loaded
returns-in-Ok-with_document-clause-loaded g c t from =
    subst (λ (h : Held). IsLoadedFrom t h) (sym c.in-Ok-with_document.ensures) (edits_loaded t c.in-Ok.put.0 (document_edits c.args.document.now) (c.in-Ok.ensures.loaded t from))

pub returns-in-Err-with_document-clause-answer : goal.returns-in-Err-with_document-clause-answer
returns-in-Err-with_document-clause-answer g c = record {
  found = c.in-Ok.ensures.answer.found;
  is_archive = c.in-Ok.ensures.answer.is_archive;
  answers = λ owed. absurd (true≢false owed);
}
