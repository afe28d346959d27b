-- The number of a place rises in the order of places.
use Rattle.tile_streaming.proofs.Common.{ap, arith, eq_by_cmp, Equal, false, false≢true, Greater, InRange, is_eq, Less, nat_cmp, nat_cmp-IsAntisymmetric, Ordering, Place, place_cmp, places_total, refl, subst, suc, sym, ℕ, ◌*◌, ◌+◌, ◌<◌, ◌^◌, ◌∙◌, ◌≡◌, ◌≤◌}
use Rattle.std.proofs.Common.{lit<}
use Rattle.std.proofs.Math.Nat.{pow-le-pow_right, pow-succ'}
use Rattle.std.proofs.lemmas.Bool.Decides.{nat_tests}
use Rattle.std.proofs.lemmas.Nat.{mul-le}
use Rattle.std.specs.Ordering.{ordering_reverse, ordering_then}
use Rattle.tile_streaming.specs.Spots.{rank}

less_of : (a b : ℕ) → nat_cmp a b ≡ Less → a < b
less_of a b h = grind (arith, nat_tests)

-- in a zoom of side s, a later column is behind all rows of the one before
next_column : (s c d r l : ℕ) → c < d → r < s → (s + c) * s + r < (s + d) * s + l
next_column s c d r l less low =
    let most : suc (s + c) * s ≤ (s + d) * s = mul-le (suc (s + c)) s (s + d) s (omega (arith, less)) (omega arith) in
    omega (arith, most, low)

-- and a later zoom behind all columns
next_zoom : (s u c r d l : ℕ) → 2 * s ≤ u → c < s → r < s → (s + c) * s + r < (u + d) * u + l
next_zoom s u c r d l wide column row =
    let low = next_column s c s r 0 column row in
    let most : (s + s) * s ≤ (u + d) * u = mul-le (s + s) s (u + d) u (omega (arith, wide)) (omega (arith, wide)) in
    omega (arith, low, most)

sides : (y z : ℕ) → y < z → 2 * 2 ^ y ≤ 2 ^ z
sides y z h =
    let next : 2 ^ suc y ≤ 2 ^ z = pow-le-pow_right (lit< tt) (omega (arith, h)) in
    omega (arith, next, pow-succ' 2 y)

pub rank_rises : (p q : Place) → InRange p → InRange q → place_cmp p q ≡ Less → rank p < rank q
rank_rises p q hp hq h = by (nat_cmp p.zoom q.zoom) (nat_cmp p.column q.column) refl refl h
  where
    one_zoom : (row : ℕ) → p.zoom ≡ q.zoom → (2 ^ p.zoom + p.column) * 2 ^ p.zoom + p.row < (2 ^ p.zoom + q.column) * 2 ^ p.zoom + row → (2 ^ p.zoom + p.column) * 2 ^ p.zoom + p.row < (2 ^ q.zoom + q.column) * 2 ^ q.zoom + row
    one_zoom row z l = subst (λ z. (2 ^ p.zoom + p.column) * 2 ^ p.zoom + p.row < (2 ^ z + q.column) * 2 ^ z + row) z l

    one_column : p.column ≡ q.column → p.row < q.row → (2 ^ p.zoom + p.column) * 2 ^ p.zoom + p.row < (2 ^ p.zoom + q.column) * 2 ^ p.zoom + q.row
    one_column c r = subst (λ c. (2 ^ p.zoom + p.column) * 2 ^ p.zoom + p.row < (2 ^ p.zoom + c) * 2 ^ p.zoom + q.row) c (omega (arith, r))

    by : (z c : Ordering) → nat_cmp p.zoom q.zoom ≡ z → nat_cmp p.column q.column ≡ c → ordering_then z (ordering_then c (nat_cmp p.row q.row)) ≡ Less → rank p < rank q
    by Less c e f h = next_zoom (2 ^ p.zoom) (2 ^ q.zoom) p.column p.row q.column q.row (sides p.zoom q.zoom (less_of p.zoom q.zoom e)) hp.column hp.row
    by Equal Less e f h = one_zoom q.row (nat_cmp-IsAntisymmetric p.zoom q.zoom e) (next_column (2 ^ p.zoom) p.column q.column p.row q.row (less_of p.column q.column f) hp.row)
    by Equal Equal e f h = one_zoom q.row (nat_cmp-IsAntisymmetric p.zoom q.zoom e) (one_column (nat_cmp-IsAntisymmetric p.column q.column f) (less_of p.row q.row h))
    by Equal Greater e f h = absurd (cc)
    by Greater c e f h = absurd (cc)

-- so places whose numbers don't fall and that differ rise
pub place_rises : (p q : Place) → InRange p → InRange q → rank p ≤ rank q → eq_by_cmp place_cmp p q ≡ false → place_cmp p q ≡ Less
place_rises p q hp hq least apart = by (place_cmp p q) refl
  where
    by : (r : Ordering) → place_cmp p q ≡ r → place_cmp p q ≡ Less
    by Less e = e
    by Equal e = absurd (false≢true (sym apart ∙ ap is_eq e))
    by Greater e = absurd (omega (arith, least, rank_rises q p hq hp (places_total.antisymm q p ∙ ap ordering_reverse e)))
