-- How much the tables hold that a database shows.
use Rattle.std.specs.Prelude.{ℕ, ℤ, ◌≡◌, ◌+◌, ◌-◌, ◌^◌, cond, List, [], length, MatchBool, min, Option, None, sum_by, take}
use Rattle.mb_sqlite.specs.Common.{Ghosts, Held, is_table, is_utf8, MbtType, Row, set_tables, TableName, Value, width}
use Rattle.sqlite_value.specs.declared.value.Value.TheVariants as sql
use Rattle.mb_sqlite.specs.Creation.{making_order}
use Rattle.mb_sqlite.specs.Making.{Steps}
use Rattle.mb_sqlite.specs.Reading.{AreRead}

-- the size of the cell that a value is read as
abbrev pub value_size : Value → ℕ
value_size (sql.Text t) = cond (is_utf8 t) (length t) 8
value_size (sql.Blob b) = length b
value_size _ = 8

-- that of the row that an answer on a table is read as
abbrev pub answer_size : TableName → Row → ℕ
answer_size table answer = sum_by value_size (take (width table) answer)

-- as many rows are read at once
abbrev pub piece : ℕ
piece = 1000

-- that of the rows that are read of a piece's answers
abbrev pub piece_size : TableName → List Row → ℕ
piece_size table found = sum_by (answer_size table) (take piece found)

module _ {S : Type 0} (g : Ghosts S) where
  -- one more piece of a table, behind the rows of those before it
  abbrev pub ReadsPiece : TableName → List Row → Held S × Option ℤ → Held S × Option ℤ → Type 0
  ReadsPiece table found old new = AreRead g table old.0 new.0 (old.1, 0) piece found new.1

  -- all rows of a table, in pieces of which the last one is empty, have this size
  pub record IsTableSize (table : TableName) (old new : Held S) (size : ℕ) : Type 0 where
    pub pieces : List (List Row)
    pub mid : Held S
    pub last : Option ℤ
    pub reads : Steps (ReadsPiece table) pieces (old, None) (mid, last)
    pub ends : AreRead g table mid new (last, 0) piece [] last
    pub sum : size ≡ sum_by (piece_size table) pieces

  -- the size of a table of the layout is added
  unfoldable pub AddsTable : MbtType → TableName → Held S × ℕ → Held S × ℕ → Type 0
  AddsTable layout table old new = MatchBool (is_table (set_tables layout) table) ((size : ℕ) × IsTableSize table old.0 new.0 size × (new.1 ≡ old.1 + size)) (new ≡ old)

  -- the sizes of all rows of the layout's tables, as far as a count goes
  unfoldable pub IsLiveSize : MbtType → Held S → Held S → ℕ → Type 0
  IsLiveSize layout old new size = (total : ℕ) × Steps (AddsTable layout) making_order (old, 0) (new, total) × (size ≡ min total (2 ^ 64 - 1))
