use Rattle.mb_load.proofs.CommittedLemmas.{is_committed}
use Rattle.mb_load.proofs.laws.changes_committed.Goals as goal

pub returns : goal.returns
returns c = is_committed
