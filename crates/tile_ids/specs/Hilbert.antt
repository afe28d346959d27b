-- Tile ids along the Hilbert curve, by recursion on quadrants (PMTiles specification version 3, tile ids).
use Rattle.std.specs.Prelude.{◌≡◌, ℕ, zero, suc, ◌+◌, ◌-◌, ◌*◌, ◌/◌, ◌%◌, ◌^◌, nat_lt, nat_le, if◌then◌else◌, refl}
use Rattle.tile_ids.specs.Coord.{Coord}

-- which quarter of a square of side 2 s a place lies in, in the order of the curve
abbrev pub quarter : ℕ → ℕ → ℕ → ℕ
quarter s x y = if nat_lt x s then (if nat_lt y s then 0 else 1) else (if nat_lt y s then 3 else 2)

-- the place within that quarter, turned so that the curve runs there as in the whole
abbrev pub turned : ℕ → ℕ → ℕ → ℕ × ℕ
turned s x y = if nat_lt x s then (if nat_lt y s then (y, x) else (x, y - s)) else (if nat_lt y s then (s - 1 - y, 2 * s - 1 - x) else (x - s, y - s))

-- the number of a tile within its zoom: its quarter, and its number within the quarter
abbrev pub hilbert : ℕ → ℕ × ℕ → ℕ
hilbert zero p = 0
hilbert (suc k) p = quarter (2 ^ k) p.0 p.1 * 4 ^ k + hilbert k (turned (2 ^ k) p.0 p.1)

-- how many tiles the zooms below have together
abbrev pub pyramid : ℕ → ℕ
pyramid z = (4 ^ z - 1) / 3

-- the number of a coordinate's tile within its zoom
abbrev pub number_of : Coord → ℕ
number_of c = hilbert c.z (c.x, c.y)

unfoldable pub tile_id : ℕ → ℕ → ℕ → ℕ
tile_id z x y = pyramid z + hilbert z (x, y)

-- the id of a coordinate
abbrev pub id_of : Coord → ℕ
id_of c = tile_id c.z c.x c.y

-- the place in a square of side 2 s of a place in its quarter q
abbrev pub unturned : ℕ → ℕ → ℕ × ℕ → ℕ × ℕ
unturned s zero p = (p.1, p.0)
unturned s (suc zero) p = (p.0, p.1 + s)
unturned s (suc (suc zero)) p = (p.0 + s, p.1 + s)
unturned s (suc (suc (suc q))) p = (2 * s - 1 - p.1, s - 1 - p.0)

-- the place of a number within its zoom
abbrev pub place : ℕ → ℕ → ℕ × ℕ
place zero n = (0, 0)
place (suc k) n = unturned (2 ^ k) (n / 4 ^ k) (place k (n % 4 ^ k))

-- the greatest zoom up to a limit whose first id isn't above this one
abbrev pub zoom_up_to : ℕ → ℕ → ℕ
zoom_up_to zero id = 0
zoom_up_to (suc z) id = if nat_le (pyramid (suc z)) id then suc z else zoom_up_to z id

-- the coordinate of zoom 0 to 31 that has this id
unfoldable pub coord_of : ℕ → Coord
coord_of id =
    let z = zoom_up_to 31 id in
    let p = place z (id - pyramid z) in
    record { z = z; x = p.0; y = p.1 }

-- ids that other programs give
pub first_tile : tile_id 0 0 0 ≡ 0
unfolding tile_id
first_tile = refl

pub tile_of_zoom_four : tile_id 4 1 3 ≡ 91
unfolding tile_id
tile_of_zoom_four = refl

pub other_tile_of_zoom_four : tile_id 4 11 13 ≡ 241
unfolding tile_id
other_tile_of_zoom_four = refl

pub tile_of_zoom_twelve : tile_id 12 3423 1763 ≡ 19078479
unfolding tile_id
tile_of_zoom_twelve = refl

pub last_tile : tile_id 31 2147483647 0 ≡ 6148914691236517204
unfolding tile_id
last_tile = refl

pub coordinate_in_zoom_four : coord_of 91 ≡ record { z = 4; x = 1; y = 3 }
unfolding coord_of
coordinate_in_zoom_four = refl

pub coordinate_in_zoom_one : coord_of 4 ≡ record { z = 1; x = 1; y = 0 }
unfolding coord_of
coordinate_in_zoom_one = refl
