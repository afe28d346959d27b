-- Where a page is read from.
use Rattle.std.specs.Prelude.{ℕ, ℤ, ◌≡◌, ◌==◌, ◌+◌, ◌-◌, ◌^◌, ◌&&◌, cond, not, nat_lt, List, length, Option, Some, None}
use Rattle.mb_sqlite.specs.Common.{Cell, Ghosts, Held, table_eq, TableName}
use Rattle.mb_sqlite.specs.Reading.{ArePaged}
use Rattle.mb_sqlite.specs.declared.cursor.Cursor.{Cursor}

-- the `rowid` behind which the rows of a table from a number on are read, if there is one, and how
-- many are passed over first
abbrev pub cursor_start : Option Cursor → TableName → ℕ → Option ℤ × ℕ
cursor_start None table from = (None, from)
cursor_start (Some c) table from = cond (table_eq c.table table && not (nat_lt from c.number)) (Some c.rowid, from - c.number) (None, from)

-- behind the last of so many rows from a number on, which has this `rowid`; where there is none, it stays
abbrev pub cursor_past : Option Cursor → TableName → ℕ → ℕ → Option ℤ → Option Cursor
cursor_past cursor table from count None = cursor
cursor_past cursor table from count (Some last) = cond (count == 0) cursor (cond (nat_lt (from + count) (2 ^ 64)) (Some (record { table = table; number = from + count; rowid = last })) cursor)

-- rows are shown from where the cursor says, and it moves past them
unfoldable pub MovesPast : {S : Type 0} → Ghosts S → TableName → Held S → Held S → ℕ → ℕ → Option Cursor → Option Cursor → List (List Cell) → Type 0
MovesPast g table old new from limit cursor next rows = (last : Option ℤ) × ArePaged g table old new (cursor_start cursor table from) limit rows last × (next ≡ cursor_past cursor table from (length rows) last)
