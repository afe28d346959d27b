-- The tables of a set that stands: stored in pages as trees, whose rows are those that any pages read as.
use Rattle.std.specs.Prelude.{◌≡◌, ℕ, ◌^◌, ◌<◌, nat_lt, Bool, true, false, cond, not, ◌&&◌, is_none, List, [], ◌∷◌, map, None, Some, IfSome, Option, length}
use Rattle.std.specs.List.{list_all}
use Rattle.std.specs.Option.{option_map}
use Rattle.sqlite_btree.specs.Chain.{Layout}
use Rattle.sqlite_btree.specs.Stored.{as_row, entries_at, IsLaidIn, IsTable}
use Rattle.sqlite_disk.specs.declared.Disk.{Ghosts}
use Rattle.sqlite_format.specs.declared.kind.Tree.TheVariants.{Table}
use Rattle.sqlite_pages.specs.PageMap.{PageMap}
use Rattle.mb_store.specs.MemStore.{told_of}
use Rattle.mb_store.specs.declared.mem_store.MemStore.{MemStore}
use Rattle.mb_tables.specs.Described.{is_keyed}
use Rattle.mb_tables.specs.Key.{clash}
use Rattle.mb_tables.specs.Kind.{contents_of, schema_of, tile_table}
use Rattle.mb_tables.specs.Table.{table_eq}
use Rattle.mb_tables.specs.declared.cell.Cell.{Cell}
use Rattle.mb_tables.specs.declared.kind.MbtType.{MbtType}
use Rattle.mb_tables.specs.declared.table.TableName.{TableName}
use Rattle.mb_tables.specs.declared.table.TableName.TheVariants.{Metadata}
use Rattle.mb_file.specs.Cursor.{Stored}
use Rattle.mb_file.specs.FilePages.{IsTrusted, pages_of}
use Rattle.mb_file.specs.Listing.{IsListed}
use Rattle.mb_file.specs.SetTable.{set_rows}
use Rattle.mb_file.specs.declared.listing.Listing.{Listing}
use Rattle.mb_file.specs.declared.source.Source.{Source}

-- the rows that any pages read as under a root
abbrev pub rows_at : ℕ → PageMap → ℕ → List Stored
rows_at usable pages root = map as_row (entries_at Table usable pages root)

-- the rows of the set that a table shows
abbrev pub shown : ℕ → PageMap → Listing → List (List Cell)
shown usable pages listing = set_rows listing.table listing.of.columns (rows_at usable pages listing.of.root)

pub record IsStanding (usable : ℕ) (pages : PageMap) (secret : ℕ) (listing : Listing) : Type 0 where
  pub layout : Layout
  pub laid : IsLaidIn layout pages
  pub stored : IsTable usable layout listing.of.root (rows_at usable pages listing.of.root)
  pub listed : IsListed layout usable pages secret listing.table (rows_at usable pages listing.of.root) listing

-- of a table with rowids, whose rows are fewer than a count can be
abbrev pub Stands : {D : Type 0} {g : Ghosts D} → Source D g → Listing → Type 0
Stands source listing =
    IsTrusted source.pages → listing.of.columns.key ≡ None → length (shown source.pages.usable (pages_of source.pages) listing) < 2 ^ 64
    → IsStanding source.pages.usable (pages_of source.pages) source.secret listing

pub record AllStand {D : Type 0} {g : Ghosts D} (source : Source D g) (tiles : Listing) (contents : Option Listing) : Type 0 where
  pub of_tiles : Stands source tiles
  pub of_contents : IfSome contents (Stands source)

-- a table of which rows are told: with rowids, and with fewer rows than a count can be
pub record IsShown {D : Type 0} {g : Ghosts D} (source : Source D g) (listing : Listing) : Type 0 where
  pub rowids : listing.of.columns.key ≡ None
  pub few : length (shown source.pages.usable (pages_of source.pages) listing) < 2 ^ 64

-- the rows of a table, where the contents are in it
abbrev pub contents_told : {D : Type 0} {g : Ghosts D} → Source D g → Option Listing → TableName → List (List Cell)
contents_told source None table = []
contents_told source (Some listing) table = cond (table_eq listing.table table) (shown source.pages.usable (pages_of source.pages) listing) []

-- the rows of a table of a set
abbrev pub rows_told : {D : Type 0} {g : Ghosts D} → Source D g → MemStore → Listing → Option Listing → TableName → List (List Cell)
rows_told source names tiles contents table =
    cond (table_eq table Metadata) ((told_of names).rows Metadata)
    (cond (table_eq tiles.table table) (shown source.pages.usable (pages_of source.pages) tiles) (contents_told source contents table))

-- whether no two rows have one key
abbrev pub are_apart : TableName → List (List Cell) → Bool
are_apart table [] = true
are_apart table (row ∷ rows) = list_all (λ other. not (clash table row other)) rows && are_apart table rows

-- whether a table's rows may be told: it has rowids, its rows are fewer than a count can be, and no two have one key
abbrev pub may_tell : {D : Type 0} {g : Ghosts D} → Source D g → Listing → Bool
may_tell source listing =
    is_none listing.of.columns.key && (nat_lt (length (shown source.pages.usable (pages_of source.pages) listing)) (2 ^ 64)
    && are_apart listing.table (shown source.pages.usable (pages_of source.pages) listing))

-- the tables of a set are those of its layout
pub record AreOfLayout (layout : MbtType) (tiles : Listing) (contents : Option Listing) : Type 0 where
  pub places : tiles.table ≡ tile_table layout
  pub beside : option_map (λ listing. listing.table) contents ≡ option_map contents_of (schema_of layout)

-- a store of metadata: one row a name, and no rows of another table
pub record HoldsNames (names : MemStore) : Type 0 where
  pub keyed : is_keyed (told_of names).descriptions Metadata ≡ true
  pub others : (table : TableName) → table_eq table Metadata ≡ false → (told_of names).rows table ≡ []
