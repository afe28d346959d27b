-- What statements make of the database of a connection, one after another in a transaction.
use Rattle.std.specs.Prelude.{ℕ, pos, Bool, true, false, nat_lt, ◌≡◌, ◌⊎◌, List, [], ◌∷◌, Some, Ok, MatchOption}
use Rattle.mb_sqlite.specs.Common.{AllZip, Cell, Change, column, ExecutesInside, Ghosts, Held, is_table, IsRolledBack, MbtType, QueriesRowInside, Row, RowKey, set_tables, Shows, state, table_text}
use Rattle.mb_sqlite.specs.Common.{TableName}
use Rattle.sqlite_value.specs.declared.value.Value.TheVariants as sql
use Rattle.mb_sqlite.specs.Creation.{making_order, making_text, there_text}
use Rattle.mb_sqlite.specs.Reading.{key_values}
use Rattle.mb_sqlite.specs.Resting.{Rests}
use Rattle.mb_sqlite.specs.Statements.{addition_text, removal_text}
use Rattle.mb_sqlite.specs.Stored.{IsWrittenAs}

-- a step for each element, one after another
unfoldable pub Steps : {A B : Type 0} → (A → B → B → Type 0) → List A → B → B → Type 0
Steps Step [] old new = new ≡ old
Steps {B = B} Step (x ∷ xs) old new = (mid : B) × Step x old mid × Steps Step xs mid new

-- a connection whose transaction is begun
abbrev pub begun : {S : Type 0} → Held S → Held S
begun old = record old { in_transaction = true }

module _ {S : Type 0} (g : Ghosts S) where
  -- a text runs inside the transaction
  unfoldable pub IsRun : List ℕ → Row → Held S → Held S → Type 0
  IsRun text values old new = (count : ℕ) × ExecutesInside 0 text values (state g old) (state g new) (Ok count)

  -- the rows of a key go; a key of another kind than the table's has none
  unfoldable pub Removes : TableName → RowKey → Held S → Held S → Type 0
  Removes table key old new = MatchOption (key_values table key) (new ≡ old) (λ values. IsRun (removal_text table) values old new)

  -- a row is added
  unfoldable pub Adds : TableName → List Cell → Held S → Held S → Type 0
  Adds table cells old new = (values : Row) × AllZip IsWrittenAs cells values × IsRun (addition_text table) values old new

  -- the rows of a change's key in a table of the layout go, and the row that is put, if one is, is added
  unfoldable pub Changed : MbtType → Change → Held S → Held S → Type 0
  Changed layout c old new = (is_table (set_tables layout) c.table ≡ true) × (mid : Held S) × Removes c.table c.key old mid × MatchOption c.row (new ≡ mid) (λ row. Adds c.table row mid new)

  -- whether the database has a table or view of this name
  unfoldable pub IsThere : TableName → Bool → Held S → Held S → Type 0
  IsThere table there old new =
      (row : Row) × (n : ℕ) × QueriesRowInside there_text (sql.Text (table_text table) ∷ []) (state g old) (state g new) (Ok row) × (column row 0 ≡ sql.Int (pos n)) × (there ≡ nat_lt 0 n)

  -- the layout has no table or view of this name, or it is there
  unfoldable pub Stays : MbtType → TableName → Held S → Held S → Type 0
  Stays layout table old new = MatchOption (making_text layout table) (new ≡ old) (λ text. IsThere table true old new)

  -- it isn't there, and is made
  unfoldable pub Arises : MbtType → TableName → Held S → Held S → Type 0
  Arises layout table old new = (text : List ℕ) × (making_text layout table ≡ Some text) × (mid : Held S) × IsThere table false old mid × IsRun text [] mid new

  -- it is there in the end
  abbrev pub Passes : MbtType → TableName → Held S → Held S → Type 0
  Passes layout table old new = Stays layout table old new ⊎ Arises layout table old new

  -- those of these names are there in the end, and whether one was made
  pub record ArePassed (layout : MbtType) (tables : List TableName) (made : Bool) (old new : Held S) : Type 0 where
    pub passed : Steps (Passes layout) tables old new
    pub there : made ≡ false → Steps (Stays layout) tables old new

  -- the tables and views of the layout that aren't there are made
  abbrev pub AreMade : MbtType → Held S → Held S → Type 0
  AreMade layout old new = Steps (Passes layout) making_order old new

  -- a transaction makes changes of tables of the layout
  abbrev pub AreChanged : MbtType → List Change → Held S → Held S → Type 0
  AreChanged layout changes old new = Steps (Changed layout) changes old new

  -- what a transaction made is committed
  unfoldable pub Commits : (Held S → Type 0) → Held S → Type 0
  Commits Makes new = (end : Held S) × Makes end × Shows (state g end) (state g new) (state g end).now (state g end).now false

  -- all tables and views of the layout were there, or those that weren't are committed
  unfoldable pub ArePrepared : MbtType → Held S → Held S → Type 0
  ArePrepared layout old new =
      ((end : Held S) × Steps (Stays layout) making_order (begun old) end × IsRolledBack (state g end) (state g new) × Rests g old new) ⊎ Commits (AreMade layout (begun old)) new
