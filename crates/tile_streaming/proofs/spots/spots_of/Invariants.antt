-- the spots of the marks so far
use Rattle.tile_streaming.proofs.Common.{take, ◌≡◌}
use Rattle.tile_streaming.specs.Spots.{spots_from}
use Rattle.tile_streaming.proofs.spots.spots_of.Given as goal

abbrev pub invariant-loop-index : goal.invariant-loop-index
invariant-loop-index l = l.spots.items ≡ spots_from 0 (take l.index l.marks)
