use Rattle.tile_join.proofs.Common.{length}
use Rattle.tile_join.proofs.OverLemmas.{Laying}
use Rattle.tile_join.proofs.overlaying.lay_over.Given as goal

abbrev pub invariant-loop-entry : goal.invariant-loop-entry
invariant-loop-entry l = Laying l.source l.entries l.pieces l.low l.rest l.below l.laid.items

abbrev pub decreases-loop-entry : goal.decreases-loop-entry
decreases-loop-entry l = length l.rest
