use Rattle.mb_edit.proofs.LawLemmas.{get-patched}
use Rattle.mb_edit.proofs.laws.patched_at_each_place.Goals as goal

pub returns : goal.returns
returns c = get-patched
