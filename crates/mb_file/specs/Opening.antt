-- The tables of a set as its opening leaves them: stored as trees, none of whose rows was read yet.
use Rattle.std.specs.Prelude.{◌≡◌, ℕ, ◌^◌, ◌<◌, List, None, IfSome, length}
use Rattle.sqlite_btree.specs.Chain.{Layout}
use Rattle.sqlite_btree.specs.Stored.{IsLaidIn, IsTable}
use Rattle.sqlite_pages.specs.PageMap.{PageMap}
use Rattle.mb_file.specs.Cursor.{Stored}
use Rattle.mb_file.specs.Listing.{IsListed}
use Rattle.mb_file.specs.SetTable.{set_rows}
use Rattle.mb_file.specs.declared.listing.Listing.{Listing}
use Rattle.mb_file.specs.declared.opening.Parts.{Parts}

-- a table is stored in pages, and its rows are listed if they are fewer than a count can be
pub record IsStoredIn (usable : ℕ) (pages : PageMap) (listing : Listing) : Type 0 where
  pub layout : Layout
  pub rows : List Stored
  pub laid : IsLaidIn layout pages
  pub stored : IsTable usable layout listing.of.root rows
  pub listed : (secret : ℕ) → length (set_rows listing.table listing.of.columns rows) < 2 ^ 64 → IsListed layout usable pages secret listing.table rows listing

-- of a table WITHOUT ROWID nothing is told
abbrev pub IsOpened : ℕ → PageMap → Listing → Type 0
IsOpened usable pages listing = listing.of.columns.key ≡ None → IsStoredIn usable pages listing

pub record AreOpened (usable : ℕ) (pages : PageMap) (parts : Parts) : Type 0 where
  pub tiles : IsOpened usable pages parts.tiles
  pub contents : IfSome parts.contents (IsOpened usable pages)
