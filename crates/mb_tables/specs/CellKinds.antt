-- The kinds of the cells beside places and contents.
use Rattle.std.specs.Prelude.{Bool, true, false, ◌&&◌, List, Option}
use Rattle.mb_tables.specs.Common.{list_all}
use Rattle.mb_tables.specs.Refusals.{unless}
use Rattle.mb_tables.specs.Tiles.{cell_at}
use Rattle.mb_tables.specs.declared.cell.Cell.{Cell}
use Rattle.mb_tables.specs.declared.cell.Cell.TheVariants.{Null, Int, Text}
use Rattle.mb_tables.specs.declared.error.MbtError.{MbtError}
use Rattle.mb_tables.specs.declared.error.MbtError.TheVariants.{InvalidDataFormat}
use Rattle.mb_tables.specs.declared.kind.MbtType.{MbtType}
use Rattle.mb_tables.specs.declared.kind.MbtType.TheVariants.{Flat, FlatWithHash, Normalized, Cache}
use Rattle.mb_tables.specs.declared.kind.NormalizedSchema.TheVariants.{Hash, DedupId}

-- a text, or null
abbrev pub is_text : Cell → Bool
is_text (Text text) = true
is_text Null = true
is_text _ = false

-- a whole number, or null
abbrev pub is_number : Cell → Bool
is_number (Int n) = true
is_number Null = true
is_number _ = false

-- whether the id of contents is of its layout's kind, or null
abbrev pub is_id : MbtType → Cell → Bool
is_id (Normalized view Hash) id = is_text id
is_id (Normalized view DedupId) id = is_number id
is_id _ id = true

-- whether the cells of a tile row beside its place and its contents are of their kinds: a digest, an id, or
-- fetched, expires and etag
abbrev pub has_tile_kinds : MbtType → List Cell → Bool
has_tile_kinds Flat row = true
has_tile_kinds FlatWithHash row = is_text (cell_at 4 row)
has_tile_kinds (Normalized view schema) row = is_id (Normalized view schema) (cell_at 3 row)
has_tile_kinds Cache row = is_number (cell_at 3 row) && is_number (cell_at 4 row) && is_text (cell_at 5 row)

-- whether a row of metadata has a text or null for its name and its value
abbrev pub has_name_kinds : List Cell → Bool
has_name_kinds row = is_text (cell_at 0 row) && is_text (cell_at 1 row)

-- a cell of the tile rows, of the contents or of the metadata isn't of its kind
abbrev pub tile_kind_wrong : MbtType → List (List Cell) → Option MbtError
tile_kind_wrong layout rows = unless (list_all (has_tile_kinds layout) rows) InvalidDataFormat

abbrev pub content_kind_wrong : MbtType → List (List Cell) → Option MbtError
content_kind_wrong layout contents = unless (list_all (λ row. is_id layout (cell_at 0 row)) contents) InvalidDataFormat

abbrev pub name_kind_wrong : List (List Cell) → Option MbtError
name_kind_wrong metadata = unless (list_all has_name_kinds metadata) InvalidDataFormat
