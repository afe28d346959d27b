-- The project's own descriptions are as wide as the rows of their tables, and keyed by them.
use Rattle.std.specs.Prelude.{◌≡◌, refl, true, false, length}
use Rattle.mb_tables.specs.declared.table.TableName.TheVariants.{Tiles, TilesWithHash, Map, Images, TilesShallow, TilesData, TileCache, Metadata}
use Rattle.mb_tables.specs.declared.kind.MbtType.TheVariants.{Flat, Normalized, Cache}
use Rattle.mb_tables.specs.declared.kind.NormalizedSchema.TheVariants.{Hash}
use Rattle.mb_tables.specs.Table.{width}
use Rattle.mb_tables.specs.Schema.{columns_of, set_tables}
use Rattle.mb_tables.specs.Described.{is_keyed, is_table, names_apart}

pub tiles_wide : length (columns_of Tiles) ≡ width Tiles
tiles_wide = refl

pub tiles_with_hash_wide : length (columns_of TilesWithHash) ≡ width TilesWithHash
tiles_with_hash_wide = refl

pub map_wide : length (columns_of Map) ≡ width Map
map_wide = refl

pub images_wide : length (columns_of Images) ≡ width Images
images_wide = refl

pub tiles_shallow_wide : length (columns_of TilesShallow) ≡ width TilesShallow
tiles_shallow_wide = refl

pub tiles_data_wide : length (columns_of TilesData) ≡ width TilesData
tiles_data_wide = refl

pub tile_cache_wide : length (columns_of TileCache) ≡ width TileCache
tile_cache_wide = refl

pub metadata_wide : length (columns_of Metadata) ≡ width Metadata
metadata_wide = refl

pub flat_is_keyed : is_keyed (set_tables Flat) Tiles ≡ true
flat_is_keyed = refl

pub flat_has_tiles : is_table (set_tables Flat) Tiles ≡ true
flat_has_tiles = refl

-- other layouts have `tiles` as a view alone
pub cache_has_no_tiles : is_table (set_tables Cache) Tiles ≡ false
cache_has_no_tiles = refl

pub hash_names_apart : names_apart (set_tables (Normalized true Hash)) ≡ true
hash_names_apart = refl
