-- the tiles so far, and those of the rows that are left
use Rattle.mb_lists.proofs.Common.{filter_map, into_iter_items, stored_by_id, ◌++◌, ◌≡◌}
use Rattle.mb_lists.proofs.row_tiles.tiles_by_id.Given as goal

abbrev pub invariant-loop-row : goal.invariant-loop-row
invariant-loop-row l = l.tiles.items ++ filter_map (stored_by_id l.contents.items.items l.contents.order.items) (into_iter_items l.row-iterator) ≡ filter_map (stored_by_id l.contents.items.items l.contents.order.items) l.fn.rows.items
