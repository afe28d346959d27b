-- The place that has an id.
use Rattle.tile_streaming.proofs.Common.{address, Coord, coord_address, coord_of, coord_placed, has_id, id_of, id_within, InRange, is_coord_of, IsCoord, MAX_TILE_ID, Place, place_with, same_address, subst, ℕ, ◌∙◌, ◌≡◌, ◌≤◌}

-- a coordinate with the id is the one
pub coord_is : (id : ℕ) (c : Coord) → IsCoord c × (id_of c ≡ id) → c ≡ coord_of id
coord_is id c h = is_coord_of id c (subst (λ i. i ≤ MAX_TILE_ID) h.1 (id_within c h.0)) h.0 h.1

-- the place of an id is in range and has it
pub place_ranged : (id : ℕ) → id ≤ MAX_TILE_ID → InRange (place_with id)
place_ranged id low = coord_placed (coord_of id) (has_id id low).0

pub place_has : (id : ℕ) → id ≤ MAX_TILE_ID → address (place_with id) ≡ id
place_has id low = let h = has_id id low in coord_address (coord_of id) h.0 ∙ h.1

-- and it is the only one
pub place_again : (p : Place) → InRange p → address p ≤ MAX_TILE_ID → place_with (address p) ≡ p
place_again p at low = same_address (place_with (address p)) p (place_ranged (address p) low) at (place_has (address p) low)
