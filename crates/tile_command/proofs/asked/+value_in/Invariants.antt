-- the rest is shorter
use Rattle.tile_command.proofs.Common.{length}
use Rattle.tile_command.proofs.asked.+value_in.Given as goal

abbrev pub decreases-value_in : goal.decreases-value_in
decreases-value_in l = length l.options.now
