use Rattle.tile_join.proofs.Common.{length, piece_count, ◌+◌, ◌≡◌}
use Rattle.tile_join.proofs.planning.are_few.Given as goal

abbrev pub invariant-loop-piece : goal.invariant-loop-piece
invariant-loop-piece l = l.left + piece_count l.pieces ≡ l.max_tiles + piece_count l.rest

abbrev pub decreases-loop-piece : goal.decreases-loop-piece
decreases-loop-piece l = length l.rest
