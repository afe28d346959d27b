-- The part of a set that a conversion takes.
use Rattle.std.specs.Prelude.{◌&&◌, ◌^◌, ℕ, List, [], ◌∷◌, nat_le, nat_lt, if◌then◌else◌, Option, Some, None}
use Rattle.std.specs.Option.{option_map_or}
use Rattle.set_conversion.specs.declared.part.SetPart.{SetPart}
use Rattle.set_conversion.specs.declared.part.SetPart.TheVariants.{Whole, Below, Ids}
use Rattle.tile_extract.specs.Cut.{intervals}
use Rattle.tile_ids.specs.Coord.{Coord}

-- the tile of a zoom from 0 to 31, a column and a row below two to the zoom
abbrev pub coord_at : ℕ → ℕ → ℕ → Option Coord
coord_at z x y = if nat_le z 31 && (nat_lt x (2 ^ z) && nat_lt y (2 ^ z)) then Some (record { z = z; x = x; y = y }) else None

-- the ids of a tile and of all tiles below it, if there is such a tile
abbrev pub ids_below : ℕ → ℕ → ℕ → List (ℕ × ℕ)
ids_below z x y = option_map_or (λ c. intervals c 31) (coord_at z x y) []

-- the ids from one to another
abbrev pub ids_between : ℕ → ℕ → List (ℕ × ℕ)
ids_between first last = if nat_le first last then (first, last) ∷ [] else []

-- the ids of a part, and none where it is the whole set
abbrev pub part_intervals : SetPart → Option (List (ℕ × ℕ))
part_intervals Whole = None
part_intervals (Below z x y) = Some (ids_below z x y)
part_intervals (Ids first last) = Some (ids_between first last)
