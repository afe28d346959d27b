use Rattle.mb_store.proofs.Common.{cell_size, min, sum_by, take, ◌+◌, ◌-◌, ◌^◌, ◌≡◌}
use Rattle.mb_store.proofs.sizes.size_with_cells.Given as goal

abbrev pub invariant-loop-cell : goal.invariant-loop-cell
invariant-loop-cell l = l.sum ≡ min (l.size + sum_by cell_size (take l.cell-index l.cells)) (2 ^ 64 - 1)
