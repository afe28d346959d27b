-- What the rows of `sqlite_schema` list: each has the type of an object, its name, the name of its table, the page with
-- the root of its tree, and the text that makes it (SQLite's file format, section 2.6).
use Rattle.std.specs.Prelude.{◌≡◌, ◌≢◌, ℕ, codes, ◌^◌, ◌==◌, ◌&&◌, ◌||◌, nat_le, nat_lt, pos, Bool, false, true, not, cond, List, [], ◌∷◌, ◌++◌, All, AllPairs, find, filter_map, map, Option, Some, None, IfSome, option_map, Result, IfOk}
use Rattle.std.specs.List.{cons_option}
use Rattle.std.specs.Str.{bytes_eq}
use Rattle.mb_reading.specs.Master.{is_there}
use Rattle.mb_tables.specs.Table.{table_eq, table_text}
use Rattle.mb_tables.specs.declared.table.TableName.{TableName}
use Rattle.mb_tables.specs.declared.table.TableName.TheVariants.{Images, Map, Metadata, Tiles, TilesData, TilesShallow, TilesWithHash}
use Rattle.sqlite_btree.specs.Chain.{Layout}
use Rattle.sqlite_btree.specs.Stored.{IsLaidIn, IsTable}
use Rattle.sqlite_pages.specs.Calls.{IsClean}
use Rattle.sqlite_pages.specs.declared.pages.Pages.{Ghosts}
use Rattle.sqlite_record.specs.Record.{decode}
use Rattle.sqlite_syntax.specs.Header.{names_object}
use Rattle.sqlite_trees.specs.Sound.{fits_kind, is_text_only, is_virtual, same_name}
use Rattle.sqlite_value.specs.Order.{bytes, class, column, Row}
use Rattle.sqlite_value.specs.declared.value.Value.{Value}
use Rattle.sqlite_value.specs.declared.value.Value.TheVariants.{Int, Text}
use Rattle.mb_file.specs.Cursor.{Stored}
use Rattle.mb_file.specs.declared.catalog.Catalog.{Catalog}
use Rattle.mb_file.specs.declared.catalog.Listed.{Listed}
use Rattle.mb_file.specs.declared.error.FileError.{FileError}

-- the bytes of a text, none of another value
abbrev pub text_of : Value → List ℕ
text_of (Text t) = t
text_of _ = []

-- the number of a page
abbrev pub page_of : Value → Option ℕ
page_of (Int (pos n)) = cond (nat_lt n (2 ^ 32)) (Some n) None
page_of _ = None

abbrev pub is_within : ℕ → Option ℕ → Bool
is_within pages None = false
is_within pages (Some page) = nat_le page pages

-- a root is one of so many pages, or 0, as a view has none
unfoldable pub has_page : ℕ → Row → Bool
has_page pages r = is_within pages (page_of (column r 3))

-- the text closes its quotes and begins by making what the row names; an index that SQLite made by itself has none, and
-- that of a virtual table isn't read
unfoldable pub is_headed : Row → Bool
is_headed r =
    (class (column r 4) == 0) || (is_virtual (column r 0) (column r 4) && not (is_text_only (column r 0)))
    || names_object (bytes (column r 0)) (bytes (column r 1)) (bytes (column r 4))

-- SQLite takes the row: its type, its names and its text fit one another, and its root is one of so many pages
unfoldable pub is_sound : ℕ → Row → Bool
is_sound pages r =
    fits_kind (column r 0) (column r 1) (column r 2) (column r 4) && has_page pages r && is_headed r

-- the tables of sets, of which a cache is none
abbrev pub set_names : List TableName
set_names = Tiles ∷ TilesWithHash ∷ Map ∷ Images ∷ TilesShallow ∷ TilesData ∷ Metadata ∷ []

-- whether a name is that of a table, in any ASCII case
unfoldable pub is_named : List ℕ → TableName → Bool
is_named name table = same_name name (table_text table)

-- the table of a set with a name
unfoldable pub table_named : List ℕ → Option TableName
table_named name = find (is_named name) set_names

-- whether a row is of a table, and whether it is of a view
unfoldable pub is_table : Row → Bool
is_table r = bytes_eq (text_of (column r 0)) (codes "table")

unfoldable pub is_view : Row → Bool
is_view r = bytes_eq (text_of (column r 0)) (codes "view")

-- the table of a set that a row lists, as a table or as a view
unfoldable pub table_in : Row → Option TableName
table_in r = cond (is_table r || is_view r) (table_named (text_of (column r 1))) None

-- a table, the page with its root and the text that makes it
abbrev pub Entry : Type 0
Entry = TableName × ℕ × List ℕ

abbrev pub entry_of : Listed → Entry
entry_of l = (l.table, l.root, l.text.items)

abbrev pub is_entry : TableName → Entry → Bool
is_entry table e = table_eq e.0 table

abbrev pub entry_by : Row → TableName → Option Entry
entry_by r table = option_map (λ page. (table, page, text_of (column r 4))) (page_of (column r 3))

abbrev pub entry_for : Row → Option TableName → Option Entry
entry_for r None = None
entry_for r (Some table) = cond (is_table r) (entry_by r table) None

-- the table that a row lists, where it lists no view
unfoldable pub entry_in : Row → Option Entry
entry_in r = entry_for r (table_in r)

-- the type, the name in lower case and the text of what a row lists
abbrev pub master_row : Row → TableName → Row
master_row r table = Text (text_of (column r 0)) ∷ Text (table_text table) ∷ Text (text_of (column r 4)) ∷ []

unfoldable pub master_in : Row → Option Row
master_in r = option_map (master_row r) (table_in r)

-- the rows are sound, no two list one table of a set, and each that lists one is there, in order
pub record IsCatalog (pages : ℕ) (rows : List Row) (catalog : Catalog) : Type 0 where
  pub sound : All (λ r. is_sound pages r ≡ true) rows
  pub once : AllPairs (λ t u. t ≢ u) (filter_map table_in rows)
  pub master : catalog.master.items ≡ filter_map master_in rows
  pub tables : map entry_of catalog.tables.items ≡ filter_map entry_in rows

-- a row more
pub record Adds (r : Row) (old new : Catalog) : Type 0 where
  pub fresh : IfSome (table_in r) (λ table. is_there old.master.items table ≡ false)
  pub master : new.master.items ≡ old.master.items ++ cons_option (master_in r) []
  pub tables : map entry_of new.tables.items ≡ map entry_of old.tables.items ++ cons_option (entry_in r) []

-- the rows of the schema that records have
abbrev pub records : List Stored → List Row
records rows = map (λ (r : Stored). decode r.1) rows

-- the catalog is that of the rows of the tree at the first page
abbrev pub ReadsCatalog : {P : Type 0} (g : Ghosts P) (early late : P) (count : ℕ) (result : Result Catalog FileError) → Type 0
ReadsCatalog g early late count result =
    IsClean g late → (layout : Layout) (rows : List Stored) → IsLaidIn layout (g.pages early) → IsTable (g.size early) layout 1 rows
    → IfOk result (IsCatalog count (records rows))
