-- the rows so far, and those that are left
use Rattle.mb_store.proofs.Common.{rows_of, ◌++◌, ◌≡◌}
use Rattle.mb_store.proofs.reading.into_rows.Given as goal

abbrev pub invariant-loop-row : goal.invariant-loop-row
invariant-loop-row l = l.all.items ++ rows_of l.row-iterator ≡ rows_of l.fn.rows.stored.keys
