-- the rows so far are taken, and begin the answer of the first state, which stays
use Rattle.mb_reading.proofs.Common.{CommitsNothing, HasCleanDisk, HasGiven, HasTaken, IsUnchanged, List, NeverFails, read_of, Row, state, told_of, [], ◌≡◌}
use Rattle.mb_reading.proofs.asking.take_rows.Given as goal

abbrev pub invariant-rows : goal.invariant-rows
invariant-rows g l =
    let old = l.fn.connection in
    let now = l.rows.conn.now in
    (l.rows.conn.ghost_name ≡ l.initial.rows.conn.ghost_name) × CommitsNothing g.S.Store old now × ((told_of l.filling.so_far.store).descriptions ≡ (told_of l.fn.so_far.store).descriptions) × NeverFails l.filling.so_far.store
    × (given : List Row) × HasTaken l.table (read_of l.fn.so_far) given l.filling × (HasCleanDisk (state g.S.Store now) → HasGiven g.S.Store l.text [] now given × IsUnchanged (state g.S.Store old) (state g.S.Store now))
