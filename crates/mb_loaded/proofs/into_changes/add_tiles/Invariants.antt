use Rattle.mb_loaded.proofs.Common.{AreUnspent, drop, filter_map, length, take, tile_change, ◌≡◌, ◌≤◌}
use Rattle.mb_loaded.proofs.into_changes.add_tiles.Given as goal

abbrev pub invariant-loop-tile : goal.invariant-loop-tile
invariant-loop-tile l = record {
  left : l.left.items ≡ drop l.index l.fn.tiles.items;
  within : l.index ≤ length l.fn.tiles.items;
  changes : l.changes ≡ filter_map (tile_change l.layout l.algorithm l.fn.contents.items) (take l.index l.fn.tiles.items);
  unspent : AreUnspent l.fn.contents.items l.contents.items l.last l.index;
}

abbrev pub decreases-loop-tile : goal.decreases-loop-tile
decreases-loop-tile l = length l.left.items
