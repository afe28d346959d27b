-- the names so far, and those of the rows that are left
use Rattle.mb_lists.proofs.Common.{filter_map, into_iter_items, name_from, ◌++◌, ◌≡◌}
use Rattle.mb_lists.proofs.name_list.names_from.Given as goal

abbrev pub invariant-loop-row : goal.invariant-loop-row
invariant-loop-row l = l.names.items ++ filter_map name_from (into_iter_items l.row-iterator) ≡ filter_map name_from l.fn.rows.items
