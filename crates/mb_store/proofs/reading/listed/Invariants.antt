-- the rows so far, and those that are left
use Rattle.mb_store.proofs.Common.{into_iter_items, rows_of, ◌++◌, ◌≡◌}
use Rattle.mb_store.proofs.reading.listed.Given as goal

abbrev pub invariant-loop-row : goal.invariant-loop-row
invariant-loop-row l = l.all.items ++ rows_of (into_iter_items l.row-iterator) ≡ rows_of l.fn.list.items
