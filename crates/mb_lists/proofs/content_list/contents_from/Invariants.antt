-- the contents so far, and those of the rows that are left
use Rattle.mb_lists.proofs.Common.{content_from, into_iter_items, map, ◌++◌, ◌≡◌}
use Rattle.mb_lists.proofs.content_list.contents_from.Given as goal

abbrev pub invariant-loop-row : goal.invariant-loop-row
invariant-loop-row l = l.contents.items ++ map content_from (into_iter_items l.row-iterator) ≡ map content_from l.fn.rows.items
