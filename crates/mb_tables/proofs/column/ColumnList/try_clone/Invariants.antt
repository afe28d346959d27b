use Rattle.mb_tables.proofs.Common.{take, ◌≡◌}
use Rattle.mb_tables.proofs.column.ColumnList.try_clone.Given as goal

abbrev pub invariant-loop-column : goal.invariant-loop-column
invariant-loop-column l = l.columns.items ≡ take l.column-index l.column-items
