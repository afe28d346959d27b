-- the contents and tiles so far, and those of the rows that are left
use Rattle.mb_lists.proofs.Common.{into_iter_items, length, map, own_content, own_tiles, undated, ◌++◌, ◌≡◌}
use Rattle.mb_lists.proofs.row_tiles.flat_tiles.Given as goal

abbrev pub invariant-loop-row : goal.invariant-loop-row
invariant-loop-row l = record {
  contents : l.contents.items ++ map (own_content 3) (into_iter_items l.row-iterator) ≡ map (own_content 3) l.fn.rows.items;
  tiles : l.tiles.items ++ own_tiles undated (length l.contents.items) (into_iter_items l.row-iterator) ≡ own_tiles undated 0 l.fn.rows.items;
}
