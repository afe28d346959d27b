use Rattle.mb_sqlite.proofs.Common.{HasCleanDisk, state, ◌≡◌}
use Rattle.mb_sqlite.proofs.KeepingLemmas.{Goes}
use Rattle.mb_sqlite.proofs.SizingLemmas.{ArePieces}
use Rattle.mb_sqlite.proofs.sizing.with_table.Given as goal

abbrev pub invariant-pieces : goal.invariant-pieces
invariant-pieces g l =
    (l.transaction.conn.ghost_name ≡ l.fn.transaction.conn.ghost_name)
    × Goes g.S.Store l.fn.transaction.conn.now l.transaction.conn.now
    × (HasCleanDisk (state g.S.Store l.transaction.conn.now) → ArePieces g.S.Store l.table l.size l.fn.transaction.conn.now l.transaction.conn.now l.last l.sum)
