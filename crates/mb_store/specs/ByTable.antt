-- One thing for each table.
use Rattle.mb_store.specs.declared.by_table.ByTable.{ByTable}
use Rattle.mb_store.specs.Common.{Images, Map, Metadata, TableName, TileCache, Tiles, TilesData, TilesShallow, TilesWithHash}

-- that of a table
abbrev pub at : {T : Type 0} → ByTable T → TableName → T
at by Tiles = by.tiles
at by TilesWithHash = by.tiles_with_hash
at by Map = by.map
at by Images = by.images
at by TilesShallow = by.tiles_shallow
at by TilesData = by.tiles_data
at by TileCache = by.tile_cache
at by Metadata = by.metadata
