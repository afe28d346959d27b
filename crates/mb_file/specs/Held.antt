-- The tables of a set that pages hold, and those that the bytes of a file and its log hold.
use Rattle.std.specs.Prelude.{◌≡◌, ◌≢◌, ℕ, false, List, [], AllPairs, filter_map, find, Some, IfSome, MatchOption}
use Rattle.std.specs.Option.{option_map}
use Rattle.sqlite_btree.specs.Chain.{Layout}
use Rattle.sqlite_btree.specs.Stored.{IsLaidIn, IsTable}
use Rattle.sqlite_pages.specs.PageMap.{PageMap}
use Rattle.sqlite_value.specs.Order.{Row}
use Rattle.sqlite_wal.specs.Recovery.{Image}
use Rattle.mb_reading.specs.Filling.{filled}
use Rattle.mb_reading.specs.Master.{first_layout}
use Rattle.mb_tables.specs.Described.{is_table}
use Rattle.mb_tables.specs.Kind.{contents_of, schema_of, tile_table}
use Rattle.mb_tables.specs.Schema.{set_tables}
use Rattle.mb_tables.specs.Table.{Tables}
use Rattle.mb_tables.specs.declared.cell.Cell.{Cell}
use Rattle.mb_tables.specs.declared.kind.MbtType.{MbtType}
use Rattle.mb_tables.specs.declared.table.TableName.{TableName}
use Rattle.mb_tables.specs.declared.table.TableName.TheVariants.{Metadata}
use Rattle.mb_file.specs.Catalog.{Entry, entry_in, is_entry, master_in, records, table_in}
use Rattle.mb_file.specs.Columns.{AreColumnsBy, HasRowids}
use Rattle.mb_file.specs.Cursor.{Stored}
use Rattle.mb_file.specs.Metadata.{names_in, no_names}
use Rattle.mb_file.specs.Opened.{AreOf}
use Rattle.mb_file.specs.SetTable.{set_rows}
use Rattle.mb_file.specs.declared.columns.Columns.{Columns}

-- the rows of the tree under a root
pub record HasRows (usable : ℕ) (pages : PageMap) (root : ℕ) (rows : List Stored) : Type 0 where
  pub layout : Layout
  pub laid : IsLaidIn layout pages
  pub stored : IsTable usable layout root rows

-- the rows of `sqlite_schema`, no two of which list one table of a set
pub record IsSchema (usable : ℕ) (pages : PageMap) (schema : List Row) : Type 0 where
  pub rows : List Stored
  pub stored : HasRows usable pages 1 rows
  pub read : schema ≡ records rows
  pub once : AllPairs (λ t u. t ≢ u) (filter_map table_in schema)

-- a table with rowids that entries list: the page with its root, and its columns by the text that makes it
pub record IsTableAt (entries : List Entry) (table : TableName) (root : ℕ) (columns : Columns) : Type 0 where
  pub entry : Entry
  pub listed : find (is_entry table) entries ≡ Some entry
  pub rooted : root ≡ entry.1
  pub made : AreColumnsBy table entry.2 columns

-- rows of a set, as what is stored of a table reads by its columns
pub record HoldsRows (usable : ℕ) (pages : PageMap) (entries : List Entry) (table : TableName) (reads : Columns → List Stored → List (List Cell)) (rows : List (List Cell)) : Type 0 where
  pub root : ℕ
  pub columns : Columns
  pub stored : List Stored
  pub placed : IsTableAt entries table root columns
  pub has : HasRows usable pages root stored
  pub read : rows ≡ reads columns stored

-- a name and a text each, the first of each name
abbrev pub named_rows : Columns → List Stored → List (List Cell)
named_rows columns stored = (filled Metadata no_names (names_in columns stored)).rows Metadata

-- the rows of the metadata, none where no table of it is listed; of one WITHOUT ROWID nothing is told
abbrev pub HoldsMetadata : ℕ → PageMap → List Entry → List (List Cell) → Type 0
HoldsMetadata usable pages entries rows =
    MatchOption (find (is_entry Metadata) entries) (rows ≡ []) (λ (entry : Entry). HasRowids entry.2 → HoldsRows usable pages entries Metadata named_rows rows)

-- the tables of a layout, with the rows of its places, of its contents and of its metadata
pub record HoldsSet (usable : ℕ) (pages : PageMap) (entries : List Entry) (layout : MbtType) (tables : Tables) : Type 0 where
  pub described : tables.descriptions ≡ set_tables layout
  pub places : HoldsRows usable pages entries (tile_table layout) (set_rows (tile_table layout)) (tables.rows (tile_table layout))
  pub contents : IfSome (option_map contents_of (schema_of layout)) (λ table. HoldsRows usable pages entries table (set_rows table) (tables.rows table))
  pub metadata : HoldsMetadata usable pages entries (tables.rows Metadata)
  pub others : (table : TableName) → is_table (set_tables layout) table ≡ false → tables.rows table ≡ []

-- the tables of the set that bytes hold, in the layout in which a set is read first
pub record HoldsTables (bytes : Image) (tables : Tables) : Type 0 where
  pub usable : ℕ
  pub pages : PageMap
  pub schema : List Row
  pub layout : MbtType
  pub are : AreOf bytes usable pages
  pub lists : IsSchema usable pages schema
  pub first : first_layout (filter_map master_in schema) ≡ Some layout
  pub holds : HoldsSet usable pages (filter_map entry_in schema) layout tables

-- the bytes of a file without a log
abbrev pub alone : List ℕ → Image
alone bytes = record { log = []; db = bytes }
