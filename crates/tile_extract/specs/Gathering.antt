-- Intervals of wanted ids that are gathered in the order of ids.
use Rattle.std.specs.Prelude.{◌≡◌, ◌≤◌, ◌<◌, ℕ, ◌+◌, ◌-◌, ◌*◌, ◌^◌, Bool, true, ◌&&◌, nat_lt, List, [], ◌∷◌, Option, Some, None}
use Rattle.tile_extract.specs.Boxes.{in_boxes}
use Rattle.tile_extract.specs.Common.{Coord, id_of, in_intervals, IsCoord, pyramid}
use Rattle.tile_extract.specs.declared.zoom_box.ZoomBox.{ZoomBox}

-- intervals of at least one id, in order, from an id on and below an end, with an id between each two
-- that lies in none of them
abbrev pub PartedBelow : ℕ → List (ℕ × ℕ) → ℕ → Type 0
PartedBelow low [] end = Unit {0}
PartedBelow low (i ∷ is) end = (low ≤ i.0) × (i.0 ≤ i.1) × (i.1 < end) × PartedBelow (i.1 + 2) is end

-- where one may begin behind the last id of another one, if there is one
abbrev pub low_behind : Option ℕ → ℕ
low_behind None = 0
low_behind (Some last) = last + 1

-- they hold the wanted ids below the end
pub record Gathered (wanted : ℕ → Bool) (end : ℕ) (is : List (ℕ × ℕ)) : Type 0 where
  pub parted : PartedBelow 0 is end
  pub are : (id : ℕ) → in_intervals id is ≡ (nat_lt id end && wanted id)

-- all ids from one on and below an end are wanted
abbrev pub AllWanted : (ℕ → Bool) → ℕ → ℕ → Type 0
AllWanted wanted first end = (id : ℕ) → first ≤ id → id < end → wanted id ≡ true

-- of the ids of a zoom, those of boxes are wanted
abbrev pub Wants : List ZoomBox → ℕ → (ℕ → Bool) → Type 0
Wants boxes zoom wanted = (c : Coord) → IsCoord c → c.z ≡ zoom → wanted (id_of c) ≡ in_boxes boxes c

-- the first id at a zoom of the descendants of the tile of a level that has a number
abbrev pub block_start : ℕ → ℕ → ℕ → ℕ
block_start zoom level number = pyramid zoom + number * 4 ^ (zoom - level)
