use Rattle.mb_sqlite.proofs.Common.{AddsTable, HasCleanDisk, making_order, min, state, Steps, take, ℕ, ◌-◌, ◌^◌, ◌≡◌}
use Rattle.mb_sqlite.proofs.KeepingLemmas.{Goes}
use Rattle.mb_sqlite.proofs.sizing.size.Given as goal

abbrev pub invariant-loop-table : goal.invariant-loop-table
invariant-loop-table g l =
    (l.transaction.conn.ghost_name ≡ l.fn.transaction.conn.ghost_name)
    × Goes g.S.Store l.fn.transaction.conn.now l.transaction.conn.now
    × (HasCleanDisk (state g.S.Store l.transaction.conn.now) → (total : ℕ) × Steps (AddsTable g.S.Store l.layout) (take l.table-index making_order) (l.fn.transaction.conn.now, 0) (l.transaction.conn.now, total) × (l.size ≡ min total (2 ^ 64 - 1)))
