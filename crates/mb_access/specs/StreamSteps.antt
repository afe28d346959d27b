-- The tiles that a stream still gives, and one call for the next of them.
use Rattle.std.specs.Prelude.{◌≡◌, ℕ, ◌<◌, ◌/◌, ◌-◌, ◌++◌, Bool, IfSome, true, cond, drop, max, not, take, List, [], ◌∷◌, Option, Some, None, Result, Ok, Err, filter_map, option_and_then, option_map, slice_get, slice_index_or}
use Rattle.mb_access.specs.Common.{Cell, cell_at, Coord, entries, get, len, MbtError, MbtType, Normalized, option_flatten, OutOfMemory, pairs_of, Place, place_at, place_of, Rose, State, StoreFault}
use Rattle.mb_access.specs.Common.{Tables, TileSet}
use Rattle.mb_access.specs.declared.stream_state.StreamState.{StreamState}
use Rattle.mb_tables.specs.Cell.{is_null}
use Rattle.mb_tables.specs.Kind.{tile_table}

-- a tile: its place, and its bytes or null
abbrev pub Tile : Type 0
Tile = Place × Option (List ℕ)

-- whether a row of the table of places is one of a tile: in a normalised set that without an id is none
abbrev pub is_tile_row : MbtType → List Cell → Bool
is_tile_row (Normalized view schema) row = not (is_null (cell_at 3 row))
is_tile_row _ row = true

-- the tile that a set has at the place of a row
abbrev pub tile_by_row : State → List Cell → Option Tile
tile_by_row s row =
    cond (is_tile_row s.layout row) (option_and_then
    (λ place. option_map (λ contents. (place, contents)) (get s.tiles place)) (place_of row)) None

-- the tile that a set has at a coordinate
abbrev pub tile_at : TileSet → Coord → Tile
tile_at tiles c = (place_at c, option_flatten (get tiles (place_at c)))

-- the index is that of a row's tile among those of the set, in the order of their places; or the row has no tile
abbrev pub IsRowOf : State → List Cell → Option ℕ → Type 0
IsRowOf s row None = tile_by_row s row ≡ None
IsRowOf s row (Some i) = (i < len s.tiles) × (tile_by_row s row ≡ slice_get (entries s.tiles) i)

-- a page after so many rows: 1024, or an eighth of these where that is more, so that a store that walks to a page from
-- the front walks nine times the table at most
abbrev pub page_size : ℕ → ℕ
page_size from = max (from / 8) 1024

-- the set that was loaded
abbrev pub set_of : StreamState → State
set_of s = s.set.state

-- at most so many tiles are still to come, whatever the store answers; none after the last one and after an error
abbrev pub left_at_most : StreamState → ℕ
left_at_most s = s.left

-- the row that is next in the page
abbrev pub next_row : StreamState → List Cell
next_row s = slice_index_or s.page.items s.at []

-- the rows that are still to come: those of the page, and those of the table from a number on up to another
abbrev pub rows_left : Tables → StreamState → List (List Cell)
rows_left t s =
    drop s.at s.page.items
    ++ take (s.rows - s.from) (drop s.from (t.rows (tile_table s.set.state.layout)))

-- the tiles that are still to come, over these tables
abbrev pub left_of : Tables → StreamState → List Tile
left_of t s = take s.left (filter_map (tile_by_row s.set.state) (rows_left t s))

-- over the second tables, all tiles of the first are still to come, in the order of their rows
abbrev pub AreAllLeft : Tables → Tables → StreamState → Type 0
AreAllLeft told now s = left_of now s ≡ pairs_of (set_of s).layout told

-- Of the tiles that were still to come the first is given, by its index among those of the set, by its coordinate, or
-- whole, and the others are still to come; nothing is given where there was none. An error ends the stream.
abbrev pub GivesIndex : TileSet → List Tile → Option (Result ℕ MbtError) → List Tile → Type 0
GivesIndex tiles items None rest = (items ≡ []) × (rest ≡ [])
GivesIndex tiles items (Some (Ok i)) rest =
    IfSome (slice_get (entries tiles) i) (λ e. items ≡ e ∷ rest)
GivesIndex tiles items (Some (Err e)) rest = rest ≡ []

abbrev pub GivesCoord : TileSet → List Tile → Option (Result Coord MbtError) → List Tile → Type 0
GivesCoord tiles items None rest = (items ≡ []) × (rest ≡ [])
GivesCoord tiles items (Some (Ok c)) rest = items ≡ tile_at tiles c ∷ rest
GivesCoord tiles items (Some (Err e)) rest = rest ≡ []

abbrev pub GivesTile : List Tile → Option (Result (Coord × Option (List ℕ)) MbtError) → List Tile
    → Type 0
GivesTile items None rest = (items ≡ []) × (rest ≡ [])
GivesTile items (Some (Ok e)) rest = items ≡ (place_at e.0, e.1) ∷ rest
GivesTile items (Some (Err e)) rest = rest ≡ []

-- Whatever the store answers: an error is running out of memory, or a fault where its count rose; the count
-- stands where no error comes.
abbrev pub StreamCauses : {A : Type 0} → ℕ → ℕ → Option (Result A MbtError) → Type 0
StreamCauses before now None = now ≡ before
StreamCauses before now (Some (Ok x)) = now ≡ before
StreamCauses before now (Some (Err OutOfMemory)) = Unit {0}
StreamCauses before now (Some (Err StoreFault)) = Rose before now
StreamCauses before now (Some (Err e)) = ⊥

-- what was loaded, or the refusal
abbrev pub loaded_by : Result StreamState MbtError → Result State MbtError
loaded_by (Ok s) = Ok (set_of s)
loaded_by (Err e) = Err e
