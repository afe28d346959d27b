-- The numbers of a tile's four children.
use Rattle.tile_ids.proofs.Common.{ap, arith, Coord, hilbert, IsChild, IsCoord, number_of, pow-succ', pyramid, subst, suc, sym, tile_id, ℕ, ◌%◌, ◌*◌, ◌+◌, ◌/◌, ◌<◌, ◌^◌, ◌∙◌, ◌≡◌}
use Rattle.tile_ids.proofs.Curve.{hilbert_below}
use Rattle.tile_ids.proofs.Bijection.{same_place, one_id}
use Rattle.tile_ids.proofs.HalvingLemmas.{hilbert-quarter}
use Rattle.tile_ids.proofs.SubtreeLemmas.{tile_at}

pub number_of-child : (c d : Coord) → IsCoord d → IsChild c d → number_of d / 4 ≡ number_of c
number_of-child c d p w =
    let e : d.z ≡ suc c.z = omega (arith, w.zoom) in
    let q = hilbert-quarter c.z (d.x, d.y) (subst (λ k. d.x < 2 ^ k) e p.column) (subst (λ k. d.y < 2 ^ k) e p.row) in
    ap (λ k. hilbert k (d.x, d.y) / 4) e ∙ (q ∙ (ap (λ x. hilbert c.z (x, d.y / 2)) w.column ∙ ap (λ y. hilbert c.z (c.x, y)) w.row))

pub child_by_number : (c d : Coord) → IsCoord c → IsCoord d → d.z ≡ suc c.z → number_of d / 4 ≡ number_of c → IsChild c d
child_by_number c d p q e n =
    let w = pow-succ' 2 c.z in
    let h = subst (λ k. d.x < 2 ^ k) e q.column in
    let g = subst (λ k. d.y < 2 ^ k) e q.row in
    let part = hilbert-quarter c.z (d.x, d.y) h g in
    let number = sym part ∙ (ap (λ k. hilbert k (d.x, d.y) / 4) (sym e) ∙ n) in
    let same = same_place c.z (d.x / 2, d.y / 2) (c.x, c.y) (omega (arith, h, w)) (omega (arith, g, w)) p.column p.row number in
    record { zoom = omega (arith, e); column = ap (λ r. r.0) same; row = ap (λ r. r.1) same }

-- four times the parent's number and 0 to 3
pub child_number : (c d : Coord) → IsCoord c → IsCoord d → IsChild c d → (i : ℕ) × (i < 4) × (number_of d ≡ 4 * number_of c + i)
child_number c d p q w = let e = number_of-child c d q w in (number_of d % 4, omega arith, omega (arith, e))

-- each of the four is the number of a child
pub child_of_number : (c : Coord) (i : ℕ) → IsCoord c → c.z < 31 → i < 4 → (d : Coord) × IsCoord d × IsChild c d × (number_of d ≡ 4 * number_of c + i)
unfolding tile_id
child_of_number c i p low h =
    let four = pow-succ' 4 c.z in
    let below = hilbert_below c.z (c.x, c.y) in
    let d = tile_at (suc c.z) (4 * number_of c + i) low (omega (arith, h, below, four)) in
    let number : number_of d.0 ≡ 4 * number_of c + i = omega (arith, d.3, ap pyramid d.2) in
    (d.0, d.1, child_by_number c d.0 p d.1 d.2 (omega (arith, number, h)), number)

-- and of no other
pub one_child : (c d e : Coord) → IsCoord d → IsCoord e → IsChild c d → IsChild c e → number_of d ≡ number_of e → d ≡ e
unfolding tile_id
one_child c d e p q v w n =
    let z : d.z ≡ e.z = omega (arith, v.zoom, w.zoom) in
    one_id d e p q (ap (λ k. pyramid k + number_of d) z ∙ ap (λ m. pyramid e.z + m) n)
