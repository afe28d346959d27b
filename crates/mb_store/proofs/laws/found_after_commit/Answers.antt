use Rattle.mb_store.proofs.Committed.{found_committed}
use Rattle.mb_store.proofs.laws.found_after_commit.Goals as goal

pub returns : goal.returns
returns c = found_committed
