use Rattle.mb_store.proofs.Common.{take, ◌≡◌}
use Rattle.mb_store.proofs.key_cells.clone_cells.Given as goal

abbrev pub invariant-loop-cell : goal.invariant-loop-cell
invariant-loop-cell l = l.copies.items ≡ take l.cell-index l.cells
