-- The ids of a tile's descendants, zoom by zoom.
use Rattle.std.specs.Prelude.{◌≡◌, ℕ, zero, suc, ◌+◌, ◌-◌, ◌*◌, ◌^◌, List, [], ◌∷◌, refl}
use Rattle.tile_extract.specs.Common.{Coord, Header, Options}
use Rattle.tile_extract.specs.Part.{part_options}
use Rattle.tile_extract.specs.declared.part.TilePart.{TilePart}
use Rattle.tile_ids.specs.Hilbert.{number_of, pyramid}

-- the first and the last id of the descendants of a tile at a zoom
abbrev pub interval : Coord → ℕ → ℕ × ℕ
interval c z = (pyramid z + number_of c * 4 ^ (z - c.z), pyramid z + number_of c * 4 ^ (z - c.z) + (4 ^ (z - c.z) - 1))

-- those at so many zooms, from one on
abbrev pub intervals_from : Coord → ℕ → ℕ → List (ℕ × ℕ)
intervals_from c z zero = []
intervals_from c z (suc n) = interval c z ∷ intervals_from c (z + 1) n

-- those at each zoom from the tile's own to another
unfoldable pub intervals : Coord → ℕ → List (ℕ × ℕ)
intervals c m = intervals_from c c.z (m + 1 - c.z)

-- the part of an archive that a tile and its descendants down to a zoom are, whose archive says these zooms
abbrev pub subtree : Coord → ℕ → TilePart
subtree c m = record { intervals = intervals c m; min_zoom = c.z; max_zoom = m }

-- what the archive of that part says beside its tiles
abbrev pub options_from : Header → List ℕ → Coord → ℕ → Options
options_from h text c m = part_options h text (subtree c m)

-- the tile of zoom 0 with the next zoom, and a tile of zoom 1 with its children
pub two_zooms : intervals (record { z = 0; x = 0; y = 0 }) 1 ≡ (0, 0) ∷ (1, 4) ∷ []
unfolding intervals
two_zooms = refl

pub children_apart : intervals (record { z = 1; x = 0; y = 1 }) 2 ≡ (2, 2) ∷ (9, 12) ∷ []
unfolding intervals
children_apart = refl
