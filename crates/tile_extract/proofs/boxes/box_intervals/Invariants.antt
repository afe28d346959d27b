use Rattle.tile_extract.proofs.Common.{boxes_hold, Gathered, pyramid}
use Rattle.tile_extract.proofs.boxes.box_intervals.Given as goal

abbrev pub invariant-loop-zoom : goal.invariant-loop-zoom
invariant-loop-zoom l = Gathered (boxes_hold l.boxes) (pyramid l.zoom) l.found.items
