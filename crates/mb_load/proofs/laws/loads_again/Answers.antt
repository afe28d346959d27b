use Rattle.mb_load.proofs.StateAgain.{state_again}
use Rattle.mb_load.proofs.laws.loads_again.Goals as goal

pub returns : goal.returns
returns c = state_again
