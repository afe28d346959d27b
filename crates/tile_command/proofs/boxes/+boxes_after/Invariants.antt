-- the rest is shorter
use Rattle.tile_command.proofs.Common.{length}
use Rattle.tile_command.proofs.boxes.+boxes_after.Given as goal

abbrev pub decreases-boxes_after : goal.decreases-boxes_after
decreases-boxes_after l = length l.words.now
