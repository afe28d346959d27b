use Rattle.tile_ids.proofs.Common.{◌/◌}
use Rattle.tile_ids.proofs.WalkLemmas.{Walking}
use Rattle.tile_ids.proofs.hilbert.hilbert_number.Given as goal

abbrev pub invariant-loop-left : goal.invariant-loop-left
invariant-loop-left l = Walking l.zoom l.x l.y l.number (l.entry / 16) l.left

abbrev pub decreases-loop-left : goal.decreases-loop-left
decreases-loop-left l = l.left
