-- What `sqlite_master` says of the tables of a set. Its answers are kinds, names in lower case and texts.
use Rattle.std.specs.Prelude.{ℕ, codes, Bool, false, ◌&&◌, ◌++◌, cond, List, [], ◌∷◌, Option, Some, None, Result, Ok, Err}
use Rattle.mb_reading.specs.Common.{bytes_eq, column, Flat, Images, list_any, Map, MbtType, Row, table_of, table_text, TableName, Tiles, TilesData, TilesShallow, TilesWithHash, Value, view_of}
use Rattle.mb_tables.specs.Detection.{detected}
use Rattle.mb_tables.specs.declared.description.TableDesc.{TableDesc}
use Rattle.mb_tables.specs.declared.error.MbtError.{MbtError}
use Rattle.sqlite_value.specs.declared.value.Value.TheVariants as sql
use Rattle.mb_reading.specs.Views.{is_view_text}

-- whether a value is this text
abbrev pub is_text : Value → List ℕ → Bool
is_text (sql.Text t) text = bytes_eq t text
is_text _ text = false

-- whether an answer names a table or a view of this name, and whether it names a table
abbrev pub names_it : TableName → Row → Bool
names_it table r = is_text (column r 1) (table_text table)

abbrev pub names_own : TableName → Row → Bool
names_own table r = is_text (column r 0) (codes "table") && names_it table r

abbrev pub is_there : List Row → TableName → Bool
is_there master table = list_any (names_it table) master

abbrev pub is_own : List Row → TableName → Bool
is_own master table = list_any (names_own table) master

-- the description of a table or view that is there: that which the project gives its own, whatever its columns
unfoldable pub described : List Row → TableName → List TableDesc
described master table = cond (is_own master table) (table_of table ∷ []) (cond (is_there master table) (view_of table ∷ []) [])

-- those of the tables by which a layout is told
abbrev pub descriptions : List Row → List TableDesc
descriptions master =
    ((((([] ++ described master Map) ++ described master Images) ++ described master TilesShallow) ++ described master TilesData) ++ described master TilesWithHash) ++ described master Tiles

-- the layout of the tables that are there
abbrev pub layout_by : Result MbtType MbtError → Option MbtType
layout_by (Ok layout) = Some layout
layout_by (Err e) = None

unfoldable pub named_layout : List Row → Option MbtType
named_layout master = layout_by (detected (descriptions master))

-- whether an answer names `tiles`, and its text makes a view of exactly the tiles of a layout's tables
abbrev pub is_view_value : MbtType → Value → Bool
is_view_value layout (sql.Text t) = is_view_text layout t
is_view_value layout _ = false

abbrev pub views : MbtType → Row → Bool
views layout r = names_it Tiles r && is_view_value layout (column r 2)

-- the layout behind a view `tiles`: that of the tables, where the view has exactly their tiles; else flat
abbrev pub behind_view : List Row → Option MbtType → MbtType
behind_view master None = Flat
behind_view master (Some layout) = cond (list_any (views layout) master) layout Flat

-- the layout in which a set is read first: a table `tiles` as itself, a view by what it has, and without either by the
-- tables; None where there is no set
unfoldable pub first_layout : List Row → Option MbtType
first_layout master = cond (is_own master Tiles) (Some Flat) (cond (is_there master Tiles) (Some (behind_view master (named_layout master))) (named_layout master))
