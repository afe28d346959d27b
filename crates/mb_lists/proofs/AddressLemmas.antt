-- Places, their coordinates and their ids.
use Rattle.mb_lists.proofs.Common.{ap, arith, Bool, Coord, eq_by_cmp, false, is_eq, IsCoord, nat_cmp, nat_cmp-IsAntisymmetric, nat_cmp_total, Place, place_at, place_cmp, places_total, refl, sym}
use Rattle.mb_lists.proofs.Common.{tied_itself, true, ℕ, ◌-◌, ◌<◌, ◌^◌, ◌∙◌, ◌≡◌, ◌≤◌}
use Rattle.tile_ids.specs.Hilbert.{id_of, tile_id}
use Rattle.tile_ids.proofs.Bijection.{id_within, one_id}
use Rattle.tile_ids.proofs.Indexes.{inverted_twice}
use Rattle.tile_ids.specs.declared.id.TheConstants.{MAX_TILE_ID}
use Rattle.mb_lists.proofs.Items.{equal_of}
use Rattle.mb_lists.proofs.Places.{from_parts, same_place}
use Rattle.mb_lists.specs.Places.{InRange, address}

-- the coordinate of a place
abbrev coord_at : Place → Coord
coord_at p = record { z = p.zoom; x = p.column; y = 2 ^ p.zoom - 1 - p.row }

-- the place of a coordinate is in range, and its address is the coordinate's id
pub coord_placed : (c : Coord) → IsCoord c → InRange (place_at c)
coord_placed c h = record { zoom = h.zoom; column = h.column; row = omega (arith, h.row) }

pub coord_address : (c : Coord) → IsCoord c → address (place_at c) ≡ id_of c
coord_address c h = ap (tile_id c.z c.x) (inverted_twice c.z c.y h.row)

coord_in_range : (p : Place) → InRange p → IsCoord (coord_at p)
coord_in_range p h = record { zoom = h.zoom; column = h.column; row = omega (arith, h.row) }

pub address_within : (p : Place) → InRange p → address p ≤ MAX_TILE_ID
address_within p h = id_within (coord_at p) (coord_in_range p h)

same_row : (a b m n : ℕ) → m ≡ n → a < m → b < n → m - 1 - a ≡ n - 1 - b → a ≡ b
same_row a b m n e f g h = omega arith

-- a coordinate has one place, and an address too
coord_in_place : (p q : Place) → InRange p → InRange q → coord_at p ≡ coord_at q → p ≡ q
coord_in_place p q hp hq c = from_parts p q (ap (λ d. d.z) c) (ap (λ d. d.x) c) (same_row p.row q.row (2 ^ p.zoom) (2 ^ q.zoom) (ap (λ d. 2 ^ d.z) c) hp.row hq.row (ap (λ d. d.y) c))

pub same_address : (p q : Place) → InRange p → InRange q → address p ≡ address q → p ≡ q
same_address p q hp hq e = coord_in_place p q hp hq (one_id (coord_at p) (coord_at q) (coord_in_range p hp) (coord_in_range q hq) e)

-- two places tie exactly where their ids do
pub one_tie : (p q : Place) → InRange p → InRange q → eq_by_cmp nat_cmp (address p) (address q) ≡ eq_by_cmp place_cmp p q
one_tie p q hp hq = go (eq_by_cmp nat_cmp (address p) (address q)) (eq_by_cmp place_cmp p q) refl refl
  where
    go : (a b : Bool) → eq_by_cmp nat_cmp (address p) (address q) ≡ a → eq_by_cmp place_cmp p q ≡ b → a ≡ b
    go true true e f = refl
    go false false e f = refl
    go true false e f =
        let same : p ≡ q = same_address p q hp hq (nat_cmp-IsAntisymmetric (address p) (address q) (equal_of (nat_cmp (address p) (address q)) e)) in
        sym (ap is_eq (tied_itself places_total p)) ∙ ap (λ r. eq_by_cmp place_cmp p r) same ∙ f
    go false true e f =
        let same : p ≡ q = same_place p q f in
        sym e ∙ sym (ap (λ r. eq_by_cmp nat_cmp (address p) (address r)) same) ∙ ap is_eq (tied_itself nat_cmp_total (address p))
