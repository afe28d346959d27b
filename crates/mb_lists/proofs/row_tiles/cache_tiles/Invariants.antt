-- the contents and tiles so far, and those of the rows that are left
use Rattle.mb_lists.proofs.Common.{dates_from, into_iter_items, length, map, own_content, own_tiles, ◌++◌, ◌≡◌}
use Rattle.mb_lists.proofs.row_tiles.cache_tiles.Given as goal

abbrev pub invariant-loop-row : goal.invariant-loop-row
invariant-loop-row l = record {
  contents : l.contents.items ++ map (own_content 6) (into_iter_items l.row-iterator) ≡ map (own_content 6) l.fn.rows.items;
  tiles : l.tiles.items ++ own_tiles dates_from (length l.contents.items) (into_iter_items l.row-iterator) ≡ own_tiles dates_from 0 l.fn.rows.items;
}
