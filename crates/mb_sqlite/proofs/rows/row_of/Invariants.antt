use Rattle.mb_sqlite.proofs.Common.{AllZip, IsReadAs, length, take, ◌≡◌}
use Rattle.mb_sqlite.proofs.rows.row_of.Given as goal

abbrev pub invariant-loop-at : goal.invariant-loop-at
invariant-loop-at l = (length l.cells.items ≡ l.at) × AllZip IsReadAs (take l.at l.row) l.cells.items
