use Rattle.mb_store.proofs.Common.{drop, with_tables, ◌≡◌}
use Rattle.mb_store.proofs.describing.with_tables.Given as goal

abbrev pub invariant-loop-table : goal.invariant-loop-table
invariant-loop-table l = with_tables l.all.items (drop l.table-index l.added) ≡ with_tables l.fn.tables l.added
