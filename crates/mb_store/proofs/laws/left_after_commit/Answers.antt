use Rattle.mb_store.proofs.Committed.{left_committed}
use Rattle.mb_store.proofs.laws.left_after_commit.Goals as goal

pub returns : goal.returns
returns c = left_committed
