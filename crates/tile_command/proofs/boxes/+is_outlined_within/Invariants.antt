-- the rest is shorter
use Rattle.tile_command.proofs.Common.{length}
use Rattle.tile_command.proofs.boxes.+is_outlined_within.Given as goal

abbrev pub decreases-is_outlined_within : goal.decreases-is_outlined_within
decreases-is_outlined_within l = length l.boxes.now
