-- Coordinates of tiles of a cache.
use Rattle.std.specs.Prelude.{ℕ, ◌^◌, ◌&&◌, cond, nat_le, nat_lt, Option, Some, None}
use Rattle.mb_cache.specs.Common.{Coord}

-- the coordinate of three numbers, where they are one of zoom 0 to 30
abbrev pub coord_in : ℕ → ℕ → ℕ → Option Coord
coord_in z x y = cond (nat_le z 30 && nat_lt x (2 ^ z) && nat_lt y (2 ^ z)) (Some (record { z = z; x = x; y = y })) None
