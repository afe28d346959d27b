-- What a writer is told of an archive beside its tiles.
use Rattle.std.specs.Prelude.{ℕ, ℤ, List, codes, pos, negsuc}
use Rattle.pm_format.specs.declared.compression.Compression.{Compression}
use Rattle.pm_format.specs.declared.compression.Compression.TheVariants as compression
use Rattle.pm_format.specs.declared.tile_type.TileType.{TileType}
use Rattle.pm_format.specs.declared.tile_type.TileType.TheVariants as tile_type

-- labels, type, zooms, degrees in ten millionths, the metadata, and how many entries a directory of tile entries
-- below the root has at most
pub record Options : Type 0 where
  pub internal_compression : Compression
  pub tile_compression : Compression
  pub tile_type : TileType
  pub min_zoom : ℕ
  pub max_zoom : ℕ
  pub min_longitude : ℤ
  pub min_latitude : ℤ
  pub max_longitude : ℤ
  pub max_latitude : ℤ
  pub center_zoom : ℕ
  pub center_longitude : ℤ
  pub center_latitude : ℤ
  pub metadata : List ℕ
  pub max_leaf_entries : ℕ

-- how tiles of a type are labelled where nothing else is said
abbrev pub usual_compression : TileType → Compression
usual_compression tile_type.Mvt = compression.Gzip
usual_compression _ = compression.None

-- the options of a writer to which nothing else is said
abbrev pub default_options : TileType → Options
default_options type = record {
  internal_compression = compression.None;
  tile_compression = usual_compression type;
  tile_type = type;
  min_zoom = 0;
  max_zoom = 22;
  min_longitude = negsuc 1799999999;
  min_latitude = negsuc 850511289;
  max_longitude = pos 1800000000;
  max_latitude = pos 850511290;
  center_zoom = 0;
  center_longitude = pos 0;
  center_latitude = pos 0;
  metadata = codes "{}";
  max_leaf_entries = 4096;
}
