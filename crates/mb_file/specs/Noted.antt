-- What a scan keeps of the rows that were read: their numbers, their count and their size.
use Rattle.std.specs.Prelude.{◌≡◌, ℕ, ◌+◌, ◌-◌, ◌^◌, ◌<◌, ◌++◌, ℤ, min, List, [], filter_map, length, sum_by, Option, Some, None}
use Rattle.std.specs.List.{cons_option}
use Rattle.std.specs.List.Sorted.{IsPermutation}
use Rattle.sqlite_btree.specs.Chain.{Layout}
use Rattle.sqlite_btree.specs.Stored.{IsLaidIn, IsTable}
use Rattle.sqlite_disk.specs.declared.Disk.{Ghosts}
use Rattle.mb_store.specs.Sizes.{row_size}
use Rattle.mb_tables.specs.declared.cell.Cell.{Cell}
use Rattle.mb_tables.specs.declared.table.TableName.{TableName}
use Rattle.mb_file.specs.Cursor.{rows_from, Stored}
use Rattle.mb_file.specs.FilePages.{IsTrusted, pages_of}
use Rattle.mb_file.specs.Numbers.{number_of_row}
use Rattle.mb_file.specs.Scan.{behind, IsScan}
use Rattle.mb_file.specs.SetTable.{set_row, set_rows}
use Rattle.mb_file.specs.declared.columns.Columns.{Columns}
use Rattle.mb_file.specs.declared.numbers.Numbered.{Numbered}
use Rattle.mb_file.specs.declared.pages.FilePages.{FilePages}
use Rattle.mb_file.specs.declared.scan.Scan.{Scan}

-- a number, if there is one, with the place where its row is read again
abbrev pub with_place : ℤ → Option ℕ → Option Numbered
with_place place None = None
with_place place (Some number) = Some (record { number = number; place = place })

-- the number of a row, if there is one
abbrev pub number_in : ℕ → Option (List Cell) → Option ℕ
number_in secret None = None
number_in secret (Some row) = number_of_row secret row

-- a row of a table by its number, where it is one of the set
abbrev pub number_at : ℕ → TableName → Columns → Stored → Option Numbered
number_at secret table columns stored = with_place stored.0 (number_in secret (set_row table columns stored))

unfoldable pub numbers_of : ℕ → TableName → Columns → List Stored → List Numbered
numbers_of secret table columns rows = filter_map (number_at secret table columns) rows

-- a size with that of a row, if there is one, as far as a count goes
abbrev pub size_behind : ℕ → Option (List Cell) → ℕ
size_behind size None = size
size_behind size (Some row) = min (size + row_size row) (2 ^ 64 - 1)

-- a row at a place is noted, if there is one
pub record Notes (secret : ℕ) (place : ℤ) (row : Option (List Cell)) (old new : Scan) : Type 0 where
  pub numbers : new.numbered.items ≡ old.numbered.items ++ cons_option (with_place place (number_in secret row)) []
  pub count : new.count ≡ behind old.count row
  pub size : new.size ≡ size_behind old.size row

-- the same rows were read, and the same is kept of them
pub record IsNotedAs (old new : Scan) : Type 0 where
  pub numbers : new.numbered.items ≡ old.numbered.items
  pub count : new.count ≡ old.count
  pub size : new.size ≡ old.size
  pub unseen : new.unseen ≡ old.unseen

-- what is kept, with the rows that weren't read yet, makes what all rows make
pub record IsNoted (secret : ℕ) (table : TableName) (columns : Columns) (rows : List Stored) (scan : Scan) : Type 0 where
  pub numbers : IsPermutation (scan.numbered.items ++ numbers_of secret table columns (rows_from scan.unseen rows)) (numbers_of secret table columns rows)
  pub count : scan.count + length (set_rows table columns (rows_from scan.unseen rows)) ≡ length (set_rows table columns rows)
  pub size : min (scan.size + sum_by row_size (set_rows table columns (rows_from scan.unseen rows))) (2 ^ 64 - 1)
      ≡ min (sum_by row_size (set_rows table columns rows)) (2 ^ 64 - 1)
  pub fits : scan.size < 2 ^ 64

-- a call on a table that is stored, clean at its end, of a scan that stands in the table's rows, keeps this
abbrev pub KeepsNotes : {D : Type 0} {g : Ghosts D} (early late : FilePages D g) (root secret : ℕ) (table : TableName) (columns : Columns) (old new : Scan) → Type 0
KeepsNotes early late root secret table columns old new =
    IsTrusted late → (layout : Layout) (rows : List Stored) → IsLaidIn layout (pages_of early) → IsTable early.usable layout root rows
    → IsScan layout early.usable (pages_of early) table columns rows old → IsNoted secret table columns rows old → IsNoted secret table columns rows new
