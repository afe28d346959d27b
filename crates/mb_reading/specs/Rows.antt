-- The rows of a set that answers of a file are read as.
use Rattle.std.specs.Prelude.{Bool, true, List, [], ◌∷◌, Option, Some, None, is_some}
use Rattle.mb_reading.specs.Common.{Cell, column, Images, Map, Metadata, option_map, Row, TableName, TileCache, Tiles, TilesData, TilesShallow, TilesWithHash}
use Rattle.mb_lists.specs.FromRows.{coord_in}
use Rattle.mb_reading.specs.Cells.{data_cell, digest_cell, name_cell, number_cell, place_cell, value_cell}

-- a place, and a cell behind it
abbrev pub placed_row : Row → Cell → List Cell
placed_row r cell = place_cell (column r 0) ∷ place_cell (column r 1) ∷ place_cell (column r 2) ∷ cell ∷ []

-- a place, contents and their digest
abbrev pub hashed_row : Row → Option Cell → Option Cell → Option (List Cell)
hashed_row r (Some bytes) (Some hash) = Some (place_cell (column r 0) ∷ place_cell (column r 1) ∷ place_cell (column r 2) ∷ bytes ∷ hash ∷ [])
hashed_row r _ _ = None

-- two cells
abbrev pub pair_of : Option Cell → Option Cell → Option (List Cell)
pair_of (Some first) (Some second) = Some (first ∷ second ∷ [])
pair_of _ _ = None

-- the row that an answer on a table is read as, None where it has a value that no set has there. The
-- table of a cache isn't read.
abbrev pub row_in : TableName → Row → Option (List Cell)
row_in Tiles r = option_map (placed_row r) (data_cell (column r 3))
row_in TilesWithHash r = hashed_row r (data_cell (column r 3)) (digest_cell (column r 4))
row_in Map r = option_map (placed_row r) (digest_cell (column r 3))
row_in Images r = pair_of (digest_cell (column r 0)) (data_cell (column r 1))
row_in TilesShallow r = option_map (placed_row r) (number_cell (column r 3))
row_in TilesData r = pair_of (number_cell (column r 0)) (data_cell (column r 1))
row_in TileCache r = None
row_in Metadata r = pair_of (name_cell (column r 0)) (value_cell (column r 1) (column r 2))

-- whether a row of a tile has a place of zoom 0 to 30; rows of other tables have no place
abbrev pub is_placed : TableName → List Cell → Bool
is_placed Images row = true
is_placed TilesData row = true
is_placed Metadata row = true
is_placed _ row = is_some (coord_in row)
