use Rattle.pm_reader.proofs.QueueLemmas.{enough_levels}
use Rattle.pm_reader.proofs.laws.levels_are_enough.Goals as goal

pub returns : goal.returns
returns c = enough_levels
