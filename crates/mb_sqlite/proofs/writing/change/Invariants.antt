use Rattle.mb_sqlite.proofs.Common.{AreChanged, HasCleanDisk, state, take, ◌≡◌}
use Rattle.mb_sqlite.proofs.KeepingLemmas.{Goes}
use Rattle.mb_sqlite.proofs.writing.change.Given as goal

abbrev pub invariant-loop-at : goal.invariant-loop-at
invariant-loop-at g l =
    (l.transaction.conn.ghost_name ≡ l.fn.transaction.conn.ghost_name)
    × Goes g.S.Store l.fn.transaction.conn.now l.transaction.conn.now
    × (HasCleanDisk (state g.S.Store l.transaction.conn.now) → AreChanged g.S.Store l.layout (take l.at l.changes) l.fn.transaction.conn.now l.transaction.conn.now)
