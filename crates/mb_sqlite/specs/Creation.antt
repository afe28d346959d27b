-- The texts that make the tables and views of a layout, and the one that asks whether one is there.
use Rattle.std.specs.Prelude.{Bool, codes, cond, true, ◌++◌, List, [], ◌∷◌, ℕ, map, Option, Some, None}
use Rattle.mb_sqlite.specs.Common.{bytes_eq, ColumnDesc, columns_of, Images, is_table, key_columns, list_all, list_any, Map, MbtType, Metadata, set_tables, table_text, TableName, TileCache, Tiles}
use Rattle.mb_sqlite.specs.Common.{TilesData, TilesShallow, TilesWithHash}
use Rattle.mb_tables.specs.declared.description.TableDesc.{TableDesc}
use Rattle.mb_tables.specs.declared.kind.MbtType.TheVariants.{FlatWithHash, Normalized, Cache}
use Rattle.mb_tables.specs.declared.kind.NormalizedSchema.TheVariants.{Hash, DedupId}
use Rattle.mb_sqlite.specs.Statements.{joined, names_of}

-- how many tables and views have a name, in any ASCII case
unfoldable pub there_text : List ℕ
there_text = codes "SELECT count(*) FROM sqlite_master WHERE name = ?1 COLLATE NOCASE AND type IN ('table', 'view')"

-- a column with its type
abbrev pub column_text : ColumnDesc → List ℕ
column_text c = c.name ++ codes " " ++ c.type_name

-- makes a table, with a unique index on its key
unfoldable pub creation_text : TableName → List ℕ
creation_text table =
    codes "CREATE TABLE " ++ table_text table ++ codes " (" ++ joined (codes ", ") (map column_text (columns_of table)) ++ codes ", UNIQUE (" ++ joined (codes ", ") (key_columns table) ++ codes "))"

-- makes a view of the tiles of a table
abbrev pub copied_text : TableName → List ℕ
copied_text table = codes "CREATE VIEW tiles AS SELECT " ++ joined (codes ", ") (names_of Tiles) ++ codes " FROM " ++ table_text table

-- a column of a table, under a name
abbrev pub taken_text : TableName → List ℕ → List ℕ → List ℕ
taken_text table column name = table_text table ++ codes "." ++ column ++ codes " AS " ++ name

-- the columns of a tile at its place, with contents from another table
abbrev pub tile_texts : TableName → TableName → List (List ℕ)
tile_texts places contents =
    taken_text places (codes "zoom_level") (codes "zoom_level") ∷ taken_text places (codes "tile_column") (codes "tile_column")
    ∷ taken_text places (codes "tile_row") (codes "tile_row") ∷ taken_text contents (codes "tile_data") (codes "tile_data") ∷ []

-- makes a view of places and their contents, which are joined by a column
abbrev pub joined_text : TableName → List (List ℕ) → TableName → TableName → List ℕ → List ℕ
joined_text view columns places contents by =
    codes "CREATE VIEW " ++ table_text view ++ codes " AS SELECT " ++ joined (codes ", ") columns ++ codes " FROM " ++ table_text places ++ codes " JOIN " ++ table_text contents
    ++ codes " ON " ++ table_text contents ++ codes "." ++ by ++ codes " = " ++ table_text places ++ codes "." ++ by

-- makes the view of this name that a layout has
unfoldable pub view_text : MbtType → TableName → Option (List ℕ)
view_text FlatWithHash Tiles = Some (copied_text TilesWithHash)
view_text Cache Tiles = Some (copied_text TileCache)
view_text (Normalized view DedupId) Tiles = Some (joined_text Tiles (tile_texts TilesShallow TilesData) TilesShallow TilesData (codes "tile_data_id"))
view_text (Normalized view Hash) Tiles = Some (joined_text Tiles (tile_texts Map Images) Map Images (codes "tile_id"))
view_text (Normalized true Hash) TilesWithHash = Some (joined_text TilesWithHash (tile_texts Map Images ++ taken_text Images (codes "tile_id") (codes "tile_hash") ∷ []) Map Images (codes "tile_id"))
view_text layout table = None

-- makes the table or view of this name that a layout has
unfoldable pub making_text : MbtType → TableName → Option (List ℕ)
making_text layout table = cond (is_table (set_tables layout) table) (Some (creation_text table)) (view_text layout table)

-- all tables, each after those that a view of its name reads
abbrev pub making_order : List TableName
making_order = Metadata ∷ Map ∷ Images ∷ TilesShallow ∷ TilesData ∷ TileCache ∷ TilesWithHash ∷ Tiles ∷ []

-- whether each of these descriptions has the name of one of those
abbrev pub are_named : List TableDesc → List TableDesc → Bool
are_named tables others = list_all (λ other. list_any (λ table. bytes_eq other.name table.name) tables) others
