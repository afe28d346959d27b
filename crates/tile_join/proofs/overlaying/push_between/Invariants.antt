use Rattle.tile_join.proofs.Common.{length}
use Rattle.tile_join.proofs.OverLemmas.{Pushing}
use Rattle.tile_join.proofs.overlaying.push_between.Given as goal

abbrev pub invariant-loop-piece : goal.invariant-loop-piece
invariant-loop-piece l = Pushing l.low l.end l.pieces l.rest l.fn.pushed.items l.pushed.items

abbrev pub decreases-loop-piece : goal.decreases-loop-piece
decreases-loop-piece l = length l.rest
