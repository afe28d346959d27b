use Rattle.mb_sqlite.proofs.Common.{ArePassed, HasCleanDisk, making_order, state, take, ◌≡◌}
use Rattle.mb_sqlite.proofs.KeepingLemmas.{Goes}
use Rattle.mb_sqlite.proofs.making.make_missing.Given as goal

abbrev pub invariant-loop-table : goal.invariant-loop-table
invariant-loop-table g l =
    (l.transaction.conn.ghost_name ≡ l.fn.transaction.conn.ghost_name)
    × Goes g.S.Store l.fn.transaction.conn.now l.transaction.conn.now
    × (HasCleanDisk (state g.S.Store l.transaction.conn.now) → ArePassed g.S.Store l.layout (take l.table-index making_order) l.made l.fn.transaction.conn.now l.transaction.conn.now)
