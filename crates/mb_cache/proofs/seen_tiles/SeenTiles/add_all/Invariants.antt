use Rattle.mb_cache.proofs.Common.{Cell, List, SeesTiles, take, ◌++◌}
use Rattle.mb_cache.proofs.seen_tiles.SeenTiles.add_all.Given as goal

abbrev pub invariant-loop-row : goal.invariant-loop-row
invariant-loop-row l = (before : List (List Cell)) → SeesTiles before l.fn.self → SeesTiles (before ++ take l.row-index l.rows) l.self
