use Rattle.mb_tables.proofs.Common.{take, ◌≡◌}
use Rattle.mb_tables.proofs.row.Row.try_clone.Given as goal

abbrev pub invariant-loop-cell : goal.invariant-loop-cell
invariant-loop-cell l = l.cells.items ≡ take l.cell-index l.cell-items
