-- The first and the last id of a tile's descendants at a zoom.
use Rattle.std.specs.Prelude.{◌≡◌, ℕ, ◌≤◌, ◌↔◌}
use Rattle.tile_ids.specs.Coord.{Coord, IsCoord, IsDescendant}
use Rattle.tile_ids.specs.Hilbert.{id_of}

-- d is a descendant of c at this zoom
pub record IsBelow (c : Coord) (zoom : ℕ) (d : Coord) : Type 0 where
  pub coord : IsCoord d
  pub level : d.z ≡ zoom
  pub descends : IsDescendant c d

-- the least id of the descendants
pub record IsFirstId (c : Coord) (zoom id : ℕ) : Type 0 where
  pub taken : (d : Coord) × IsBelow c zoom d × (id_of d ≡ id)
  pub least : (d : Coord) → IsBelow c zoom d → id ≤ id_of d

-- the greatest id of the descendants
pub record IsLastId (c : Coord) (zoom id : ℕ) : Type 0 where
  pub taken : (d : Coord) × IsBelow c zoom d × (id_of d ≡ id)
  pub greatest : (d : Coord) → IsBelow c zoom d → id_of d ≤ id

pub record IsInterval (c : Coord) (zoom : ℕ) (ids : ℕ × ℕ) : Type 0 where
  pub first : IsFirstId c zoom ids.0
  pub last : IsLastId c zoom ids.1

-- the ids of the zoom from the first to the last are those of the descendants
abbrev pub HoldsDescendants : Coord → ℕ → ℕ × ℕ → Type 0
HoldsDescendants c zoom ids = (d : Coord) → IsCoord d → d.z ≡ zoom → IsDescendant c d ↔ ((ids.0 ≤ id_of d) × (id_of d ≤ ids.1))
