-- The metadata of a set: the rows of its table, each read as a name and a text, the first of each name. What they leave
-- in a store, and what is left out, is said as of any file's rows that go into one (`read_on` of mb_reading).
use Rattle.std.specs.Prelude.{◌≡◌, ℕ, List, [], ◌∷◌, map, None, Option, Some, Result, OnOk}
use Rattle.std.specs.Fmt.{signed_decimal}
use Rattle.sqlite_btree.specs.Chain.{Layout}
use Rattle.sqlite_btree.specs.Stored.{IsLaidIn, IsTable}
use Rattle.sqlite_disk.specs.declared.Disk.{Ghosts}
use Rattle.sqlite_pages.specs.PageMap.{PageMap}
use Rattle.sqlite_sql.specs.Spelling.{spelled}
use Rattle.sqlite_value.specs.Order.{column, Row}
use Rattle.sqlite_value.specs.declared.value.Value.{Value}
use Rattle.sqlite_value.specs.declared.value.Value.TheVariants.{Int, Null, Real, Text}
use Rattle.mb_reading.specs.Filling.{Read, read_on}
use Rattle.mb_reading.specs.declared.left_out.LeftOut.{LeftOut}
use Rattle.mb_store.specs.MemStore.{told_of}
use Rattle.mb_store.specs.declared.mem_store.MemStore.{MemStore}
use Rattle.mb_store.specs.Store.{no_rows}
use Rattle.mb_tables.specs.Schema.{set_tables}
use Rattle.mb_tables.specs.Table.{Tables}
use Rattle.mb_tables.specs.declared.kind.MbtType.TheVariants.{Flat}
use Rattle.mb_tables.specs.declared.table.TableName.TheVariants.{Metadata}
use Rattle.mb_file.specs.Columns.{AreColumnsBy, HasRowids}
use Rattle.mb_file.specs.Cursor.{Stored}
use Rattle.mb_file.specs.FilePages.{IsTrusted, pages_of}
use Rattle.mb_file.specs.Record.{value_in}
use Rattle.mb_file.specs.declared.catalog.Listed.{Listed}
use Rattle.mb_file.specs.declared.columns.Columns.{Columns}
use Rattle.mb_file.specs.declared.error.FileError.{FileError}
use Rattle.mb_file.specs.declared.pages.FilePages.{FilePages}

-- the text that SQLite spells a number in, None of another value
abbrev pub spelling : Value → Option (List ℕ)
spelling (Int n) = Some (signed_decimal n)
spelling (Real x) = Some (spelled x)
spelling _ = None

abbrev pub text_or_null : Option (List ℕ) → Value
text_or_null None = Null
text_or_null (Some text) = Text text

-- a name, a value and the text of a number, as an answer of five values
abbrev pub three_of : Row → Row
three_of r = column r 0 ∷ column r 1 ∷ column r 2 ∷ Null ∷ Null ∷ []

-- what a row of the table has: its name, its value, and the text that this is spelled in where it is a number
abbrev pub named_value : Value → Value → Row
named_value name value = name ∷ value ∷ text_or_null (spelling value) ∷ Null ∷ Null ∷ []

unfoldable pub name_in : Columns → Stored → Row
name_in columns stored = named_value (value_in columns.first stored.0 stored.1) (value_in columns.second stored.0 stored.1)

-- the answers that rows of the table are
abbrev pub names_in : Columns → List Stored → List Row
names_in columns rows = map (name_in columns) rows

-- what a store tells, and what was left out
abbrev pub held_in : MemStore → LeftOut → Read
held_in names left_out = (told_of names, left_out)

-- the tables of a store that holds nothing but metadata, and has none yet
abbrev pub no_names : Tables
no_names = no_rows (set_tables Flat)

-- the rows of a table that is stored, with rowids, are read, clean at the end
abbrev pub Fills : {D : Type 0} {g : Ghosts D} (early late : FilePages D g) (root : ℕ) (columns : Columns) (before after : Read) (result : Result (Unit {0}) FileError) → Type 0
Fills early late root columns before after result =
    IsTrusted late → columns.key ≡ None → (layout : Layout) (rows : List Stored) → IsLaidIn layout (pages_of early) → IsTable early.usable layout root rows
    → OnOk result (after ≡ read_on Metadata before (names_in columns rows))

-- the rows of a table that is stored in pages, by the columns that its text makes
pub record AreNamesOf (usable : ℕ) (pages : PageMap) (listed : Listed) (columns : Columns) (before after : Read) : Type 0 where
  pub made : AreColumnsBy Metadata listed.text.items columns
  pub layout : Layout
  pub rows : List Stored
  pub laid : IsLaidIn layout pages
  pub stored : IsTable usable layout listed.root rows
  pub read : after ≡ read_on Metadata before (names_in columns rows)

-- what is read of a table that is listed; of one WITHOUT ROWID nothing is told
abbrev pub AreNames : ℕ → PageMap → Option Listed → Read → Read → Type 0
AreNames usable pages None before after = after ≡ before
AreNames usable pages (Some listed) before after = HasRowids listed.text.items → (columns : Columns) × AreNamesOf usable pages listed columns before after
