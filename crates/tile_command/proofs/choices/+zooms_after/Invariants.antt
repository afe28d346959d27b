-- there are fewer parts
use Rattle.tile_command.proofs.Common.{length, parted}
use Rattle.tile_command.proofs.choices.+zooms_after.Given as goal

abbrev pub decreases-zooms_after : goal.decreases-zooms_after
decreases-zooms_after l = length (parted 44 l.text.now)
