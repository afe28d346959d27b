use Rattle.tile_extract.proofs.Common.{length, widened, ◌≡◌}
use Rattle.tile_extract.proofs.boxes.widened.Given as goal

abbrev pub invariant-loop-tile_box : goal.invariant-loop-tile_box
invariant-loop-tile_box l = widened (l.low, l.high) l.rest ≡ widened (l.least, l.greatest) l.boxes

abbrev pub decreases-loop-tile_box : goal.decreases-loop-tile_box
decreases-loop-tile_box l = length l.rest
