-- The tiles of a set that was read, and the ids of refusals.
use Rattle.std.specs.Prelude.{◌≤◌, Result, Ok, Err}
use Rattle.tile_import.specs.Common.{Held, MAX_TILE_ID, TileSet, WalkError}
use Rattle.pm_walk.specs.declared.error.WalkError.TheVariants.{TooDeep}
use Rattle.tile_import.specs.declared.error.ImportError.{ImportError}

abbrev pub tiles_of : Result Held ImportError → Result TileSet ImportError
tiles_of (Ok h) = Ok h.state.tiles
tiles_of (Err e) = Err e

-- the id of a tile of zoom 31 is that of a tile
abbrev pub IsTileId : WalkError → Type 0
IsTileId (TooDeep id) = id ≤ MAX_TILE_ID
IsTileId x = Unit {0}
