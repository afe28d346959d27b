-- What whole runs of streams give.
use Rattle.std.specs.Prelude.{ℕ, List, Option, Some, None, Result, Ok, Err}
use Rattle.mb_access.specs.StreamSteps.{Tile}
use Rattle.mb_access.specs.Common.{Coord, MbtError, Place, place_at}

abbrev pub CoordItem : Type 0
CoordItem = Result Coord MbtError

abbrev pub TileItem : Type 0
TileItem = Result (Coord × Option (List ℕ)) MbtError

-- the place of a coordinate, the tile of an item; none of an error
abbrev pub place_in : CoordItem → Option Place
place_in (Ok c) = Some (place_at c)
place_in (Err e) = None

abbrev pub tile_in : TileItem → Option Tile
tile_in (Ok e) = Some (place_at e.0, e.1)
tile_in (Err e) = None
