-- The statements that read a file.
use Rattle.std.specs.Prelude.{ℕ, codes, List}
use Rattle.mb_reading.specs.Common.{Images, Map, Metadata, TableName, TileCache, Tiles, TilesData, TilesShallow, TilesWithHash}

-- all tables and views, each by its kind, its name in lower case and the text that makes it
unfoldable pub master_text : List ℕ
master_text = codes "SELECT type, lower(name), sql FROM sqlite_master WHERE type IN ('table', 'view')"

-- all rows of a table, by the names of its columns; of the metadata each value also as a text
unfoldable pub rows_text : TableName → List ℕ
rows_text Tiles = codes "SELECT zoom_level, tile_column, tile_row, tile_data FROM tiles"
rows_text TilesWithHash = codes "SELECT zoom_level, tile_column, tile_row, tile_data, tile_hash FROM tiles_with_hash"
rows_text Map = codes "SELECT zoom_level, tile_column, tile_row, tile_id FROM map"
rows_text Images = codes "SELECT tile_id, tile_data FROM images"
rows_text TilesShallow = codes "SELECT zoom_level, tile_column, tile_row, tile_data_id FROM tiles_shallow"
rows_text TilesData = codes "SELECT tile_data_id, tile_data FROM tiles_data"
rows_text TileCache = codes "SELECT zoom_level, tile_column, tile_row, fetched, expires, etag, tile_data FROM tile_cache"
rows_text Metadata = codes "SELECT name, value, CAST(value AS TEXT) FROM metadata"
