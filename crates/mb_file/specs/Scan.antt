-- Where a scan stands in the rows of a set, and what it gives from there on.
use Rattle.std.specs.Prelude.{◌≡◌, ℕ, ◌+◌, ◌-◌, ◌^◌, ◌<◌, ◌≤◌, ℤ, pos, ◌+ℤ◌, int_le, min, Bool, true, false, List, [], ◌∷◌, drop, length, Option, Some, None, SomeIff, FitsSigned}
use Rattle.std.specs.Int.{w64}
use Rattle.sqlite_btree.specs.Chain.{Layout}
use Rattle.sqlite_btree.specs.Stored.{IsLaidIn, IsTable}
use Rattle.sqlite_disk.specs.declared.Disk.{Ghosts}
use Rattle.sqlite_pages.specs.PageMap.{PageMap}
use Rattle.mb_tables.specs.declared.cell.Cell.{Cell}
use Rattle.mb_tables.specs.declared.table.TableName.{TableName}
use Rattle.mb_file.specs.Course.{IsIn, left_in}
use Rattle.mb_file.specs.Cursor.{rows_from, Stored}
use Rattle.mb_file.specs.FilePages.{IsTrusted, pages_of}
use Rattle.mb_file.specs.SetTable.{set_rows}
use Rattle.mb_file.specs.declared.columns.Columns.{Columns}
use Rattle.mb_file.specs.declared.pages.FilePages.{FilePages}
use Rattle.mb_file.specs.declared.scan.Scan.{Scan}

-- a row's number is none that a row had so far
abbrev pub is_unseen : Option ℤ → ℤ → Bool
is_unseen None number = false
is_unseen (Some least) number = int_le least number

-- the least number that no row had, with a row more
abbrev pub UnseenAfter : Bool → Option ℤ → ℤ → Option ℤ → Type 0
UnseenAfter true old number new = SomeIff new (FitsSigned w64 (number +ℤ pos 1)) (number +ℤ pos 1)
UnseenAfter false old number new = new ≡ old

-- it stands in the rows of a table, behind as many rows of the set as it says; no row behind it wasn't seen
pub record IsScan (layout : Layout) (usable : ℕ) (pages : PageMap) (table : TableName) (columns : Columns) (rows : List Stored) (scan : Scan) : Type 0 where
  pub among : IsIn layout usable pages rows scan.course
  pub few : length (set_rows table columns rows) < 2 ^ 64
  pub within : scan.position ≤ length (set_rows table columns rows)
  pub left : set_rows table columns (left_in scan.course rows) ≡ drop scan.position (set_rows table columns rows)
  pub behind : rows_from scan.unseen (left_in scan.course rows) ≡ rows_from scan.unseen rows

-- the count of rows behind one more, if there is one, as far as a count goes
abbrev pub behind : ℕ → Option (List Cell) → ℕ
behind count None = count
behind count (Some row) = min (count + 1) (2 ^ 64 - 1)

-- from one place in rows to behind the row that is there, or there is none
abbrev pub Goes : List (List Cell) → ℕ → ℕ → Option (List Cell) → Type 0
Goes all old new None = (drop old all ≡ []) × (new ≡ old)
Goes all old new (Some row) = (drop old all ≡ row ∷ drop new all) × (new ≡ old + 1)

-- to a place in rows, or there are none from it on
abbrev pub Reaches : List (List Cell) → ℕ → ℕ → Bool → Type 0
Reaches all to new true = new ≡ to
Reaches all to new false = drop to all ≡ []

-- a call on a table that is stored, clean at its end, of a scan that stands in the table's rows: what it does, by what
-- it is to stand in rows, and by all rows of the set
abbrev pub Scans : {D : Type 0} {g : Ghosts D} (early late : FilePages D g) (root : ℕ) (table : TableName) (columns : Columns) (old : Scan)
    (Does : (Scan → Type 0) → List (List Cell) → Type 0) → Type 0
Scans early late root table columns old Does =
    IsTrusted late → (layout : Layout) (rows : List Stored) → IsLaidIn layout (pages_of early) → IsTable early.usable layout root rows
    → IsScan layout early.usable (pages_of early) table columns rows old
    → Does (IsScan layout early.usable (pages_of early) table columns rows) (set_rows table columns rows)
