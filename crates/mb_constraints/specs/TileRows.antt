-- The rows of a set's tiles, their contents, and what a set keeps beside these.
use Rattle.std.specs.Prelude.{ℕ, cond, List, Option, Some, None, filter_map, is_some, map, option_and_then, option_map}
use Rattle.std.specs.FinMap.{FinMap, from_entries}
use Rattle.mb_lists.specs.Keyed.{are_distinct}
use Rattle.mb_constraints.specs.Common.{Cache, Cell, cell_at, content_of, first_refused, InvalidTileIndex, is_null, MbtError, MbtType, Normalized, NoUniquenessConstraint, Place, place_cmp, place_of}
use Rattle.mb_constraints.specs.Common.{tile_of, unless}
use Rattle.mb_lists.specs.declared.dates.Dates.{Dates}

-- the contents of a row: its own, or those of its id among these contents. A row without an id is no
-- row of a tile, and has none
abbrev pub contents_in : MbtType → List (List Cell) → List Cell → Option Cell
contents_in (Normalized view schema) contents row = cond (is_null (cell_at 3 row)) None (Some (content_of contents (cell_at 3 row)))
contents_in Cache contents row = Some (cell_at 6 row)
contents_in _ contents row = Some (cell_at 3 row)

-- the refusal of a row of a tile whose place is none, or whose contents are neither bytes nor null
abbrev pub bad_tile : MbtType → List (List Cell) → List Cell → Option MbtError
bad_tile layout contents row = option_and_then (λ cell. unless (is_some (tile_of row cell)) (InvalidTileIndex (cell_at 0 row) (cell_at 1 row) (cell_at 2 row))) (contents_in layout contents row)

-- a tile row is bad: the first one
abbrev pub tile_bad : MbtType → List (List Cell) → List (List Cell) → Option MbtError
tile_bad layout contents rows = first_refused (bad_tile layout contents) rows

-- the id of a row of a normalised set
abbrev pub id_in : MbtType → List Cell → Option Cell
id_in (Normalized view schema) row = cond (is_null (cell_at 3 row)) None (Some (cell_at 3 row))
id_in _ row = None

-- the times of a row of a cache
abbrev pub dates_in : MbtType → List Cell → Option Dates
dates_in Cache row = Some (record { fetched = cell_at 3 row; expires = cell_at 4 row; etag = cell_at 5 row })
dates_in _ row = None

-- what rows have at their places
abbrev pub by_place : {A : Type 0} → (List Cell → Option A) → List (List Cell) → FinMap place_cmp A
by_place value rows = from_entries (filter_map (λ row. option_and_then (λ place. option_map (λ v. (place, v)) (value row)) (place_of row)) rows)

-- the tile of a row with its contents
abbrev pub tile_in : MbtType → List (List Cell) → List Cell → Option (Place × Option (List ℕ))
tile_in layout contents row = option_and_then (tile_of row) (contents_in layout contents row)

-- a place stands twice, as it does only in tables that break their unique index
abbrev pub place_twice : MbtType → List (List Cell) → List (List Cell) → Option MbtError
place_twice layout contents rows = unless (are_distinct place_cmp (map (λ tile. tile.0) (filter_map (tile_in layout contents) rows))) NoUniquenessConstraint
