-- the rest is shorter
use Rattle.tile_command.proofs.Common.{length}
use Rattle.tile_command.proofs.words.+with_places.Given as goal

abbrev pub decreases-with_places : goal.decreases-with_places
decreases-with_places l = length l.words.now
