use Rattle.mb_loaded.proofs.Common.{map, take, tile_with, ◌++◌, ◌≡◌}
use Rattle.mb_loaded.proofs.sharing.push_tiles.Given as goal

abbrev pub invariant-loop-coord : goal.invariant-loop-coord
invariant-loop-coord l = l.tiles.items ≡ l.fn.tiles.items ++ map (tile_with l.layout l.contents) (take l.coord-index l.coords)
