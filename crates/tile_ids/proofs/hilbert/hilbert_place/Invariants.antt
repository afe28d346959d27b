use Rattle.tile_ids.proofs.Common.{◌/◌}
use Rattle.tile_ids.proofs.WalkLemmas.{Returning}
use Rattle.tile_ids.proofs.hilbert.hilbert_place.Given as goal

abbrev pub invariant-loop-left : goal.invariant-loop-left
invariant-loop-left l = Returning l.zoom l.number l.column l.row (l.entry / 16) l.left

abbrev pub decreases-loop-left : goal.decreases-loop-left
decreases-loop-left l = l.left
