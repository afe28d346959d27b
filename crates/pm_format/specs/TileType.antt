-- The media types of tiles.
use Rattle.std.specs.Prelude.{ℕ, List, codes}
use Rattle.pm_format.specs.declared.tile_type.TileType.{TileType}
use Rattle.pm_format.specs.declared.tile_type.TileType.TheVariants as tile_type

abbrev pub media_type_text : TileType → List ℕ
media_type_text tile_type.Unknown = codes "application/octet-stream"
media_type_text tile_type.Mvt = codes "application/vnd.mapbox-vector-tile"
media_type_text tile_type.Png = codes "image/png"
media_type_text tile_type.Jpeg = codes "image/jpeg"
media_type_text tile_type.Webp = codes "image/webp"
media_type_text tile_type.Avif = codes "image/avif"
media_type_text tile_type.Mlt = codes "application/vnd.maplibre-vector-tile"
