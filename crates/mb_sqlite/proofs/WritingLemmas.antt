-- Values that are written, and statements that run.
use Rattle.mb_sqlite.proofs.Common.{Adds, ap, bound_value, cases_Bool, Cell, Changed, Err, Error, ExecutesInside, false, Ghosts, HasCleanDisk, Held, inl, inr, is_table, IsRun, IsTrue, IsWrittenAs}
use Rattle.mb_sqlite.proofs.Common.{List, MatchOption, MbtType, Ok, Option, Removes, Result, RowKey, set_tables, state, TableName, true, Value, ℕ, ◌≡◌}
use Rattle.sqlite.specs.Order.{Row}
use Rattle.mb_tables.specs.declared.cell.Cell.TheVariants.{Null, Int, Text, Blob, Other}

-- a cell's value is bound as it is
pub written_bound : (cell : Cell) (value : Value) → IsWrittenAs cell value → IsWrittenAs cell (bound_value value)
written_bound Null value is = ap bound_value is
written_bound (Int n) value is = ap bound_value is
written_bound (Text t) value is = ap bound_value is
written_bound (Blob b) value is = ap bound_value is
written_bound Other value is = absurd is

abbrev success : ℕ → Result ℕ Error
success count = Ok count

-- a statement that is run was inside the transaction
pub is_run : {S A : Type 0} (g : Ghosts S) (sql : List ℕ) (params : Row) (old new : Held S) (count : ℕ) (e : Error)
    → ((state g old).in_transaction ≡ false → (success count ≡ Err e) × A)
    → (HasCleanDisk (state g new) → IsTrue (state g old).in_transaction → ExecutesInside 0 sql params (state g old) (state g new) (Ok count))
    → HasCleanDisk (state g new) → IsRun g sql params old new
unfolding IsRun
is_run g sql params old new count e ended runs clean = elim (cases_Bool (state g old).in_transaction) [
  | inl within ↦ (count, runs clean within)
  | inr outside ↦ absurd (let never = (ended outside).0 in cc)
]

-- one change
pub changed_by : {S : Type 0} (g : Ghosts S) (layout : MbtType) (table : TableName) (key : RowKey) (row : Option (List Cell)) (old mid new : Held S)
    → is_table (set_tables layout) table ≡ true → Removes g table key old mid → MatchOption row (new ≡ mid) (λ cells. Adds g table cells mid new)
    → Changed g layout (record { table = table; key = key; row = row }) old new
unfolding Changed
changed_by g layout table key row old mid new is removes adds = (is, mid, removes, adds)
