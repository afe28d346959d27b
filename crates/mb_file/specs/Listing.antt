-- A table of a set: a scan of its rows, and what the scan keeps of those that were read.
use Rattle.std.specs.Prelude.{◌≡◌, ℕ, true, false, List, None, AllPairs}
use Rattle.std.specs.List.Sorted.{IsNonDecreasingBy}
use Rattle.sqlite_btree.specs.Chain.{Layout}
use Rattle.sqlite_btree.specs.Stored.{IsLaidIn, IsTable}
use Rattle.sqlite_disk.specs.declared.Disk.{Ghosts}
use Rattle.sqlite_pages.specs.PageMap.{PageMap}
use Rattle.mb_tables.specs.Key.{clash}
use Rattle.mb_tables.specs.declared.cell.Cell.{Cell}
use Rattle.mb_tables.specs.declared.table.TableName.{TableName}
use Rattle.mb_file.specs.Cursor.{Stored}
use Rattle.mb_file.specs.FilePages.{IsTrusted, pages_of}
use Rattle.mb_file.specs.Noted.{IsNoted}
use Rattle.mb_file.specs.Scan.{IsScan}
use Rattle.mb_file.specs.SetTable.{set_rows}
use Rattle.mb_file.specs.declared.listing.Listing.{Listing}
use Rattle.mb_file.specs.declared.numbers.Numbered.{Numbered}
use Rattle.mb_file.specs.declared.pages.FilePages.{FilePages}
use Rattle.mb_file.specs.declared.scan.Scan.{Scan}

-- the numbers of its rows are in order, and no row is left to be read
pub record InOrder (scan : Scan) : Type 0 where
  pub ended : scan.unseen ≡ None
  pub rises : IsNonDecreasingBy (λ (item : Numbered). item.number) scan.numbered.items

-- its scan stands in the rows of a table with rowids, and what it keeps of them is what it read
pub record IsListed (layout : Layout) (usable : ℕ) (pages : PageMap) (secret : ℕ) (table : TableName) (rows : List Stored) (listing : Listing) : Type 0 where
  pub stands : IsScan layout usable pages table listing.of.columns rows listing.scan
  pub notes : IsNoted secret table listing.of.columns rows listing.scan
  pub rowids : listing.of.columns.key ≡ None
  pub sorted : listing.is_sorted ≡ true → InOrder listing.scan

-- no two rows have one key
abbrev pub AreApart : TableName → List (List Cell) → Type 0
AreApart table rows = AllPairs (λ r s. clash table r s ≡ false) rows

-- a call on a table that is stored, clean at its end: what it does, by what it is to list the rows, and by all rows of
-- the set
abbrev pub Lists : {D : Type 0} {g : Ghosts D} (early late : FilePages D g) (secret : ℕ) (table : TableName) (old : Listing)
    (Does : (Listing → Type 0) → List (List Cell) → Type 0) → Type 0
Lists early late secret table old Does =
    IsTrusted late → (layout : Layout) (rows : List Stored) → IsLaidIn layout (pages_of early) → IsTable early.usable layout old.of.root rows
    → IsListed layout early.usable (pages_of early) secret table rows old
    → Does (IsListed layout early.usable (pages_of early) secret table rows) (set_rows table old.of.columns rows)
