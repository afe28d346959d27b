-- The words by which layouts are shown, and what they stand for.
use Rattle.std.specs.Prelude.{ℕ, codes, Bool, true, false, List, Option, Some, None}
use Rattle.mb_tables.specs.declared.kind.MbtType.{MbtType}
use Rattle.mb_tables.specs.declared.kind.MbtType.TheVariants as layouts
use Rattle.mb_tables.specs.declared.kind.MbtTypeCli.{MbtTypeCli}
use Rattle.mb_tables.specs.declared.kind.MbtTypeCli.TheVariants as cli_layouts
use Rattle.mb_tables.specs.declared.kind.NormalizedSchema.{NormalizedSchema}
use Rattle.mb_tables.specs.declared.kind.NormalizedSchema.TheVariants.{Hash, DedupId}
use Rattle.mb_tables.specs.declared.table.TableName.{TableName}
use Rattle.mb_tables.specs.declared.table.TableName.TheVariants.{Tiles, TilesWithHash, Map, Images, TilesShallow, TilesData, TileCache}

abbrev pub layout_words : MbtType → List ℕ
layout_words layouts.Flat = codes "flat"
layout_words layouts.FlatWithHash = codes "flat-with-hash"
layout_words (layouts.Normalized view schema) = codes "normalized"
layout_words layouts.Cache = codes "cache"

abbrev pub cli_layout_words : MbtTypeCli → List ℕ
cli_layout_words cli_layouts.Flat = codes "flat"
cli_layout_words cli_layouts.FlatWithHash = codes "flat-with-hash"
cli_layout_words cli_layouts.Normalized = codes "normalized"
cli_layout_words cli_layouts.Cache = codes "cache"

abbrev pub is_normalized : MbtType → Bool
is_normalized (layouts.Normalized view schema) = true
is_normalized _ = false

abbrev pub has_hash_view : MbtType → Bool
has_hash_view (layouts.Normalized view schema) = view
has_hash_view _ = false

abbrev pub schema_of : MbtType → Option NormalizedSchema
schema_of (layouts.Normalized view schema) = Some schema
schema_of _ = None

-- the tables of a normalised set's places and contents, and the column that links them
abbrev pub places_of : NormalizedSchema → TableName
places_of Hash = Map
places_of DedupId = TilesShallow

abbrev pub contents_of : NormalizedSchema → TableName
contents_of Hash = Images
contents_of DedupId = TilesData

-- the table that has the places of a layout's tiles
abbrev pub tile_table : MbtType → TableName
tile_table layouts.Flat = Tiles
tile_table layouts.FlatWithHash = TilesWithHash
tile_table (layouts.Normalized view schema) = places_of schema
tile_table layouts.Cache = TileCache

abbrev pub id_text : NormalizedSchema → List ℕ
id_text Hash = codes "tile_id"
id_text DedupId = codes "tile_data_id"

-- whether that column holds numbers
abbrev pub has_number_ids : NormalizedSchema → Bool
has_number_ids Hash = false
has_number_ids DedupId = true
