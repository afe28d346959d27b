-- Where a table has the columns of its set. They are found by their names, in any ASCII case, in the text that makes
-- the table. A row is a record of its columns in order; one that is the INTEGER PRIMARY KEY is the rowid, and null
-- there (SQLite's file format, section 2.3).
use Rattle.std.specs.Prelude.{◌≡◌, ℕ, codes, ◌==◌, ◌+◌, ◌^◌, ◌-◌, min, nat_lt, Bool, false, true, cond, List, [], ◌∷◌, filter, length, Option, Some, None, MatchOption, option_and_then, option_map, slice_get, Result, Ok, Err}
use Rattle.std.specs.List.{position_from}
use Rattle.mb_tables.specs.declared.table.TableName.{TableName}
use Rattle.mb_tables.specs.declared.table.TableName.TheVariants.{Images, Map, Metadata, TileCache, Tiles, TilesData, TilesShallow, TilesWithHash}
use Rattle.sqlite_resolve.specs.Compile.{table_defined_by}
use Rattle.sqlite_resolve.specs.declared.error.CompileError.{CompileError}
use Rattle.sqlite_schema.specs.Names.{column_named, is_key}
use Rattle.sqlite_schema.specs.declared.schema.Column as made_column
use Rattle.sqlite_schema.specs.declared.schema.Kind.{Kind}
use Rattle.sqlite_schema.specs.declared.schema.Kind.TheVariants as kinds
use Rattle.sqlite_schema.specs.declared.schema.Table.{Table}
use Rattle.mb_file.specs.declared.columns.Column.{Column}
use Rattle.mb_file.specs.declared.columns.Columns.{Columns}
use Rattle.mb_file.specs.declared.columns.Made.{Made}

-- the names of the columns of a table of a set, in order (MBTiles 1.3, and the layouts of the crate `mbtiles`)
unfoldable pub names_of : TableName → List (List ℕ)
names_of Tiles = codes "zoom_level" ∷ codes "tile_column" ∷ codes "tile_row" ∷ codes "tile_data" ∷ []
names_of TilesWithHash = codes "zoom_level" ∷ codes "tile_column" ∷ codes "tile_row" ∷ codes "tile_data" ∷ codes "tile_hash" ∷ []
names_of Map = codes "zoom_level" ∷ codes "tile_column" ∷ codes "tile_row" ∷ codes "tile_id" ∷ []
names_of Images = codes "tile_id" ∷ codes "tile_data" ∷ []
names_of TilesShallow = codes "zoom_level" ∷ codes "tile_column" ∷ codes "tile_row" ∷ codes "tile_data_id" ∷ []
names_of TilesData = codes "tile_data_id" ∷ codes "tile_data" ∷ []
names_of TileCache = []
names_of Metadata = codes "name" ∷ codes "value" ∷ []

-- whether whole numbers in a column are floating point numbers
abbrev pub is_real : Kind → Bool
is_real kinds.Real = true
is_real _ = false

-- where the records of a table WITHOUT ROWID with such a key have a column: those of the key come first, the others
-- behind them in order
abbrev pub place_or : List ℕ → ℕ → Option ℕ → ℕ
place_or key column (Some place) = place
place_or key column None = min (column + length (filter (nat_lt column) key)) (2 ^ 64 - 1)

unfoldable pub place_in_record : List ℕ → ℕ → ℕ
place_in_record key column = place_or key column (position_from (λ part. part == column) 0 key)

-- a column by its number in the table, which has rowids or a key
abbrev pub column_at : Table → Option (List ℕ) → ℕ → made_column.Column → Column
column_at made None number of = record { at = number; is_key = is_key made.key number; is_real = is_real of.kind; default = of.default }
column_at made (Some key) number of = record { at = place_in_record key number; is_key = false; is_real = is_real of.kind; default = of.default }

-- the first column of a table with a name, in any ASCII case
unfoldable pub column_of : Table → Option (List ℕ) → List ℕ → Option Column
column_of made key name = option_and_then (λ number. option_map (column_at made key number) (slice_get made.columns number)) (column_named made name)

-- the column with the name that the set has at a number; none where the set has fewer
abbrev pub IsNumbered : Table → Option (List ℕ) → TableName → ℕ → Option Column → Type 0
IsNumbered made key table number column =
    MatchOption (slice_get (names_of table) number) (column ≡ None) (λ name. (c : Column) × (column ≡ Some c) × (column_of made key name ≡ Some c))

-- the columns of a set's table, each by its name
pub record AreColumns (made : Table) (key : Option (List ℕ)) (table : TableName) (columns : Columns) : Type 0 where
  pub keyed : columns.key ≡ option_map length key
  pub first : IsNumbered made key table 0 (Some columns.first)
  pub second : IsNumbered made key table 1 (Some columns.second)
  pub third : IsNumbered made key table 2 columns.third
  pub fourth : IsNumbered made key table 3 columns.fourth
  pub fifth : IsNumbered made key table 4 columns.fifth

-- the columns of the key of a table WITHOUT ROWID, None of another table
abbrev pub key_columns : Made → Option (List ℕ)
key_columns made = option_map (λ key. key.items) made.key

-- the table that a text makes, None where the kit doesn't understand it
abbrev pub IsDefined : List ℕ → Option Table → Type 0
IsDefined text None = (e : CompileError) × (table_defined_by text ≡ Err e)
IsDefined text (Some made) = table_defined_by text ≡ Ok made

-- a table has rowids where the kit understands the whole text that makes it
abbrev pub HasRowids : List ℕ → Type 0
HasRowids text = (made : Table) × (table_defined_by text ≡ Ok made)

-- the columns of a set's table by the text that makes it, where it has rowids
pub record AreColumnsBy (table : TableName) (text : List ℕ) (columns : Columns) : Type 0 where
  pub made : Table
  pub defined : table_defined_by text ≡ Ok made
  pub are : AreColumns made None table columns
