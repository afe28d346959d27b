use Rattle.mb_edit.proofs.LawLemmas.{patched-patched}
use Rattle.mb_edit.proofs.laws.patched_twice.Goals as goal

pub returns : goal.returns
returns c = patched-patched
