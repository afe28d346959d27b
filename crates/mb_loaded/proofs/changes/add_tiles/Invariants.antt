use Rattle.mb_loaded.proofs.Common.{filter_map, take, tile_change, ◌≡◌}
use Rattle.mb_loaded.proofs.changes.add_tiles.Given as goal

abbrev pub invariant-loop-tile : goal.invariant-loop-tile
invariant-loop-tile l = l.changes ≡ filter_map (tile_change l.layout l.algorithm l.contents) (take l.tile-index l.tiles)
