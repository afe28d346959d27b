-- A tile coordinate: three numbers.
use Rattle.std.specs.Prelude.{◌≡◌, ℕ, ◌+◌, ◌-◌, ◌/◌, ◌^◌, ◌<◌, ◌≤◌, ◌⊎◌, ◌&&◌, true, false, nat_lt, nat_le, if◌then◌else◌, ℤ, pos, Option, Some, None, refl}

pub record Coord : Type 0 where
  pub z : ℕ
  pub x : ℕ
  pub y : ℕ

-- the zoom is at most 31, and the column and row are below two to the zoom
pub record IsCoord (c : Coord) : Type 0 where
  pub zoom : c.z ≤ 31
  pub column : c.x < 2 ^ c.z
  pub row : c.y < 2 ^ c.z

-- two numbers of which one is one more than the other
abbrev pub IsNext : ℕ → ℕ → Type 0
IsNext m n = (m + 1 ≡ n) ⊎ (n + 1 ≡ m)

-- two squares of one grid that share a side: one column and rows that are next, or one row and columns that are next
abbrev pub ShareSide : ℕ × ℕ → ℕ × ℕ → Type 0
ShareSide p r = ((p.0 ≡ r.0) × IsNext p.1 r.1) ⊎ ((p.1 ≡ r.1) × IsNext p.0 r.0)

-- d is one of the four tiles of the next zoom into which c is cut
pub record IsChild (c d : Coord) : Type 0 where
  pub zoom : d.z ≡ c.z + 1
  pub column : d.x / 2 ≡ c.x
  pub row : d.y / 2 ≡ c.y

-- d is c, or lies in c at a deeper zoom: each zoom between halves its column and row
pub record IsDescendant (c d : Coord) : Type 0 where
  pub zoom : c.z ≤ d.z
  pub column : d.x / 2 ^ (d.z - c.z) ≡ c.x
  pub row : d.y / 2 ^ (d.z - c.z) ≡ c.y

-- a row of a zoom, counted from the other edge
abbrev pub inverted_y : ℕ → ℕ → ℕ
inverted_y zoom y = 2 ^ zoom - 1 - y

-- the natural number that is there, if any
abbrev pub natural : Option ℤ → Option ℕ
natural (Some (pos n)) = Some n
natural number = None

-- the coordinate of a stored zoom, column and row counted from the bottom: the zoom is 0 to 30, the others
-- are below two to the zoom
abbrev pub index_of : Option ℕ → Option ℕ → Option ℕ → Option Coord
index_of (Some z) (Some x) (Some y) =
    elim (nat_le z 30) [
      | true ↦ (if nat_lt x (2 ^ z) && nat_lt y (2 ^ z) then Some (record { z = z; x = x; y = inverted_y z y }) else None)
      | false ↦ None
    ]
index_of z x y = None

abbrev pub tile_index : Option ℤ → Option ℤ → Option ℤ → Option Coord
tile_index z x y = index_of (natural z) (natural x) (natural y)

-- the three are there, and are those of this coordinate of zoom 0 to 30
pub record IsIndexOf (z x y : Option ℤ) (c : Coord) : Type 0 where
  pub coord : IsCoord c
  pub within : c.z ≤ 30
  pub level : z ≡ Some (pos c.z)
  pub column : x ≡ Some (pos c.x)
  pub bottom : y ≡ Some (pos (inverted_y c.z c.y))

-- rows are counted from the bottom
pub bottom_row : tile_index (Some (pos 2)) (Some (pos 1)) (Some (pos 0)) ≡ Some (record { z = 2; x = 1; y = 3 })
bottom_row = refl

pub no_such_row : tile_index (Some (pos 2)) (Some (pos 1)) (Some (pos 4)) ≡ None
no_such_row = refl

pub too_deep : tile_index (Some (pos 31)) (Some (pos 1)) (Some (pos 4)) ≡ None
too_deep = refl
