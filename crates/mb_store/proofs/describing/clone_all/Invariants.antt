use Rattle.mb_store.proofs.Common.{take, ◌≡◌}
use Rattle.mb_store.proofs.describing.clone_all.Given as goal

abbrev pub invariant-loop-table : goal.invariant-loop-table
invariant-loop-table l = l.copies.items ≡ take l.table-index l.tables
