-- A row of a table that is read by its rowid.
use Rattle.std.specs.Prelude.{◌≡◌, ℕ, ℤ, List, Some, Result, IfOk, OnOk}
use Rattle.sqlite_btree.specs.Chain.{Layout}
use Rattle.sqlite_btree.specs.Cut.{IsIn}
use Rattle.sqlite_btree.specs.Stored.{IsLaidIn, IsTable}
use Rattle.sqlite_pages.specs.Calls.{IsClean}
use Rattle.sqlite_pages.specs.declared.pages.Pages.{Ghosts}
use Rattle.mb_tables.specs.declared.cell.Cell.{Cell}
use Rattle.mb_tables.specs.declared.table.TableName.{TableName}
use Rattle.mb_file.specs.Cursor.{Stored}
use Rattle.mb_file.specs.SetTable.{row_read}
use Rattle.mb_file.specs.declared.columns.Columns.{Columns}
use Rattle.mb_file.specs.declared.fault.FileFault.{FileFault}

-- the record is that of the row with the rowid
abbrev pub ReadsRecord : {P : Type 0} (g : Ghosts P) (early late : P) (root : ℕ) (rowid : ℤ) (bytes : List ℕ) (result : Result (Unit {0}) FileFault) → Type 0
ReadsRecord g early late root rowid bytes result =
    IsClean g late → (layout : Layout) (rows : List Stored) → IsLaidIn layout (g.pages early) → IsTable (g.size early) layout root rows
    → OnOk result (IsIn (rowid, bytes) rows)

-- the row is what the row with the rowid is read as
pub record IsRowAt (table : TableName) (columns : Columns) (rows : List Stored) (rowid : ℤ) (row : List Cell) : Type 0 where
  pub bytes : List ℕ
  pub among : IsIn (rowid, bytes) rows
  pub is : row_read table columns (rowid, bytes) ≡ Some row

abbrev pub GivesRowAt : {P : Type 0} (g : Ghosts P) (early late : P) (root : ℕ) (table : TableName) (columns : Columns) (rowid : ℤ) (result : Result (List Cell) FileFault) → Type 0
GivesRowAt g early late root table columns rowid result =
    IsClean g late → (layout : Layout) (rows : List Stored) → IsLaidIn layout (g.pages early) → IsTable (g.size early) layout root rows
    → IfOk result (IsRowAt table columns rows rowid)
