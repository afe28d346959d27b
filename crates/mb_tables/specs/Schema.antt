-- The descriptions that the project itself gives its tables.
use Rattle.std.specs.Prelude.{ℕ, codes, true, false, List, [], ◌∷◌, ◌++◌}
use Rattle.mb_tables.specs.declared.column.ColumnDesc.{ColumnDesc}
use Rattle.mb_tables.specs.declared.description.TableDesc.{TableDesc}
use Rattle.mb_tables.specs.declared.description.TableKind.TheVariants.{Table, View}
use Rattle.mb_tables.specs.declared.kind.MbtType.{MbtType}
use Rattle.mb_tables.specs.declared.kind.MbtType.TheVariants.{Flat, FlatWithHash, Normalized, Cache}
use Rattle.mb_tables.specs.declared.kind.NormalizedSchema.TheVariants.{Hash, DedupId}
use Rattle.mb_tables.specs.declared.table.TableName.{TableName}
use Rattle.mb_tables.specs.declared.table.TableName.TheVariants.{Tiles, TilesWithHash, Map, Images, TilesShallow, TilesData, TileCache, Metadata}
use Rattle.mb_tables.specs.Table.{table_text, key_columns}

abbrev pub column_of : List ℕ → List ℕ → ColumnDesc
column_of name type_name = record { name = name; type_name = type_name }

abbrev pub coordinates : List ColumnDesc
coordinates = column_of (codes "zoom_level") (codes "INTEGER") ∷ column_of (codes "tile_column") (codes "INTEGER") ∷ column_of (codes "tile_row") (codes "INTEGER") ∷ []

-- the columns of a table
abbrev pub columns_of : TableName → List ColumnDesc
columns_of Tiles = coordinates ++ column_of (codes "tile_data") (codes "BLOB") ∷ []
columns_of TilesWithHash = coordinates ++ column_of (codes "tile_data") (codes "BLOB") ∷ column_of (codes "tile_hash") (codes "TEXT") ∷ []
columns_of Map = coordinates ++ column_of (codes "tile_id") (codes "TEXT") ∷ []
columns_of Images = column_of (codes "tile_id") (codes "TEXT") ∷ column_of (codes "tile_data") (codes "BLOB") ∷ []
columns_of TilesShallow = coordinates ++ column_of (codes "tile_data_id") (codes "INTEGER") ∷ []
columns_of TilesData = column_of (codes "tile_data_id") (codes "INTEGER") ∷ column_of (codes "tile_data") (codes "BLOB") ∷ []
columns_of TileCache = coordinates ++ column_of (codes "fetched") (codes "INTEGER") ∷ column_of (codes "expires") (codes "INTEGER") ∷ column_of (codes "etag") (codes "TEXT") ∷ column_of (codes "tile_data") (codes "BLOB") ∷ []
columns_of Metadata = column_of (codes "name") (codes "TEXT") ∷ column_of (codes "value") (codes "TEXT") ∷ []

-- a table, with a unique index on its key
abbrev pub table_of : TableName → TableDesc
table_of table = record { name = table_text table; kind = Table; columns = columns_of table; indexes = record { unique = true; columns = key_columns table } ∷ [] }

-- a view with the columns of a table
abbrev pub view_of : TableName → TableDesc
view_of table = record { name = table_text table; kind = View; columns = columns_of table; indexes = [] }

-- the tables of a layout, and its views
abbrev pub layout_tables : MbtType → List TableDesc
layout_tables Flat = table_of Tiles ∷ []
layout_tables FlatWithHash = table_of TilesWithHash ∷ view_of Tiles ∷ []
layout_tables (Normalized true Hash) = table_of Map ∷ table_of Images ∷ view_of Tiles ∷ view_of TilesWithHash ∷ []
layout_tables (Normalized false Hash) = table_of Map ∷ table_of Images ∷ view_of Tiles ∷ []
layout_tables (Normalized view DedupId) = table_of TilesShallow ∷ table_of TilesData ∷ view_of Tiles ∷ []
layout_tables Cache = table_of TileCache ∷ view_of Tiles ∷ []

-- those of a tile set of the layout
abbrev pub set_tables : MbtType → List TableDesc
set_tables layout = table_of Metadata ∷ layout_tables layout

-- the layout with whose tables a set of this layout is begun
abbrev pub started_as : MbtType → MbtType
started_as (Normalized view schema) = Normalized view Hash
started_as layout = layout
