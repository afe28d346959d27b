-- What reads of a set answer.
use Rattle.std.specs.Prelude.{ℕ, ◌^◌, ◌&&◌, Bool, nat_le, nat_lt, cond, List, Option, Some, None, Result, Ok, is_some, option_and_then}
use Rattle.mb_access.specs.Common.{Coord, get, MbtError, option_flatten, place_at, State, TileSet}

-- the coordinate of three numbers, where they are one
abbrev pub coord_in : ℕ → ℕ → ℕ → Option Coord
coord_in z x y =
    cond (nat_le z 31 && nat_lt x (2 ^ z) && nat_lt y (2 ^ z))
    (Some (record { z = z; x = x; y = y })) None

-- the tile at three numbers, bytes or null. None where there is none, and where they are no coordinate
abbrev pub tile_in : TileSet → Option Coord → Option (Option (List ℕ))
tile_in tiles c = option_and_then (λ c. get tiles (place_at c)) c

-- its bytes; None for null too
abbrev pub bytes_in : TileSet → Option Coord → Option (List ℕ)
bytes_in tiles c = option_flatten (tile_in tiles c)

abbrev pub tile_answer : ℕ → ℕ → ℕ → State → Result (Option (List ℕ)) MbtError
tile_answer z x y s = Ok (bytes_in s.tiles (coord_in z x y))

-- whether there is a tile, null or not
abbrev pub contains_answer : ℕ → ℕ → ℕ → State → Result Bool MbtError
contains_answer z x y s = Ok (is_some (tile_in s.tiles (coord_in z x y)))
