-- The tables of a tile set, and what a store tells of them.
use Rattle.std.specs.Prelude.{ℕ, codes, ◌==◌, Bool, List, [], ◌∷◌, take}
use Rattle.mb_tables.specs.declared.cell.Cell.{Cell}
use Rattle.mb_tables.specs.declared.description.TableDesc.{TableDesc}
use Rattle.mb_tables.specs.declared.table.TableName.{TableName}
use Rattle.mb_tables.specs.declared.table.TableName.TheVariants.{Tiles, TilesWithHash, Map, Images, TilesShallow, TilesData, TileCache, Metadata}

-- the tables by number
abbrev pub table_number : TableName → ℕ
table_number Tiles = 0
table_number TilesWithHash = 1
table_number Map = 2
table_number Images = 3
table_number TilesShallow = 4
table_number TilesData = 5
table_number TileCache = 6
table_number Metadata = 7

-- whether two tables are the same
abbrev pub table_eq : TableName → TableName → Bool
table_eq t u = table_number t == table_number u

-- the tables' names
abbrev pub table_text : TableName → List ℕ
table_text Tiles = codes "tiles"
table_text TilesWithHash = codes "tiles_with_hash"
table_text Map = codes "map"
table_text Images = codes "images"
table_text TilesShallow = codes "tiles_shallow"
table_text TilesData = codes "tiles_data"
table_text TileCache = codes "tile_cache"
table_text Metadata = codes "metadata"

-- how many cells a row of the table has
abbrev pub width : TableName → ℕ
width Tiles = 4
width TilesWithHash = 5
width Map = 4
width Images = 2
width TilesShallow = 4
width TilesData = 2
width TileCache = 7
width Metadata = 2

-- how many of them, from the front, are its key
abbrev pub key_width : TableName → ℕ
key_width Images = 1
key_width TilesData = 1
key_width Metadata = 1
key_width _ = 3

-- the names of the key's columns
abbrev pub key_columns : TableName → List (List ℕ)
key_columns Images = codes "tile_id" ∷ []
key_columns TilesData = codes "tile_data_id" ∷ []
key_columns Metadata = codes "name" ∷ []
key_columns _ = codes "zoom_level" ∷ codes "tile_column" ∷ codes "tile_row" ∷ []

-- the key of a row
abbrev pub key_of : TableName → List Cell → List Cell
key_of table row = take (key_width table) row

-- what a store tells: its descriptions, and each table's rows in order
pub record Tables : Type 0 where
  pub descriptions : List TableDesc
  pub rows : TableName → List (List Cell)
