-- The number of a tile's parent is a quarter of its own, and so on for each zoom above.
use Rattle.tile_ids.proofs.Common.{ap, arith, Bool, div-div-eq-div-mul, false, hilbert, nat_lt, nat_tests, pow-succ', quarter, refl, subst, suc, sym, true, turned, zero, ℕ, ◌*◌, ◌+◌, ◌/◌, ◌<◌, ◌^◌}
use Rattle.tile_ids.proofs.Common.{◌∙◌, ◌≡◌, ◌≤◌}
use Rattle.tile_ids.proofs.Curve.{quarter_below}

-- a turn and a halving, in either order, where w is twice s
record Halved (s w x y : ℕ) : Type 0 where
  which : quarter w x y ≡ quarter s (x / 2) (y / 2)
  column : (turned w x y).0 / 2 ≡ (turned s (x / 2) (y / 2)).0
  row : (turned w x y).1 / 2 ≡ (turned s (x / 2) (y / 2)).1
  wide : (turned w x y).0 < w
  high : (turned w x y).1 < w

halve : (s w x y : ℕ) → w ≡ 2 * s → x < 2 * w → y < 2 * w → Halved s w x y
halve s w x y d h g = go (nat_lt x w) (nat_lt y w) refl refl
  where
    go : (a b : Bool) → nat_lt x w ≡ a → nat_lt y w ≡ b → Halved s w x y
    go true true e f =
        let l : x < w = grind (arith, nat_tests) in
        let m : y < w = grind (arith, nat_tests) in
        let i : nat_lt (x / 2) s ≡ true = grind (arith, nat_tests) in
        let j : nat_lt (y / 2) s ≡ true = grind (arith, nat_tests) in
        record { which = rw (e, f, i, j) refl; column = rw (e, f, i, j) refl; row = rw (e, f, i, j) refl; wide = rw (e, f) m; high = rw (e, f) l }
    go true false e f =
        let l : x < w = grind (arith, nat_tests) in
        let m : w ≤ y = grind (arith, nat_tests) in
        let i : nat_lt (x / 2) s ≡ true = grind (arith, nat_tests) in
        let j : nat_lt (y / 2) s ≡ false = grind (arith, nat_tests) in
        record { which = rw (e, f, i, j) refl; column = rw (e, f, i, j) refl; row = rw (e, f, i, j) (omega arith); wide = rw (e, f) l; high = rw (e, f) (omega arith) }
    go false true e f =
        let l : w ≤ x = grind (arith, nat_tests) in
        let m : y < w = grind (arith, nat_tests) in
        let i : nat_lt (x / 2) s ≡ false = grind (arith, nat_tests) in
        let j : nat_lt (y / 2) s ≡ true = grind (arith, nat_tests) in
        record {
          which = rw (e, f, i, j) refl;
          column = rw (e, f, i, j) (omega arith);
          row = rw (e, f, i, j) (omega arith);
          wide = rw (e, f) (omega arith);
          high = rw (e, f) (omega arith);
        }
    go false false e f =
        let l : w ≤ x = grind (arith, nat_tests) in
        let m : w ≤ y = grind (arith, nat_tests) in
        let i : nat_lt (x / 2) s ≡ false = grind (arith, nat_tests) in
        let j : nat_lt (y / 2) s ≡ false = grind (arith, nat_tests) in
        record {
          which = rw (e, f, i, j) refl;
          column = rw (e, f, i, j) (omega arith);
          row = rw (e, f, i, j) (omega arith);
          wide = rw (e, f) (omega arith);
          high = rw (e, f) (omega arith);
        }

quarters : (q m n : ℕ) → (q * (4 * m) + n) / 4 ≡ q * m + n / 4
quarters q m n = omega arith

abbrev halves : ℕ × ℕ → ℕ × ℕ
halves p = (p.0 / 2, p.1 / 2)

pub hilbert-quarter : (k : ℕ) (p : ℕ × ℕ) → p.0 < 2 ^ suc k → p.1 < 2 ^ suc k → hilbert (suc k) p / 4 ≡ hilbert k (p.0 / 2, p.1 / 2)
hilbert-quarter zero p h g = let q = quarter_below (2 ^ 0) p.0 p.1 in omega (arith, q)
hilbert-quarter (suc k) p h g =
    let w = pow-succ' 2 (suc k) in
    let t = halve (2 ^ k) (2 ^ suc k) p.0 p.1 (pow-succ' 2 k) (omega (arith, h, w)) (omega (arith, g, w)) in
    let turn = turned (2 ^ suc k) p.0 p.1 in
    let half = turned (2 ^ k) (p.0 / 2) (p.1 / 2) in
    let r = hilbert-quarter k turn t.wide t.high in
    let same : halves turn ≡ half = ap (λ x. (x, turn.1 / 2)) t.column ∙ ap (λ y. (half.0, y)) t.row in
    let q = quarter (2 ^ suc k) p.0 p.1 in
    ap (λ m. (q * m + hilbert (suc k) turn) / 4) (pow-succ' 4 k) ∙
    (quarters q (4 ^ k) (hilbert (suc k) turn) ∙
    (ap (λ n. q * 4 ^ k + n) (r ∙ ap (hilbert k) same) ∙
    ap (λ n. n * 4 ^ k + hilbert k half) t.which))

half : (n j : ℕ) → n / 2 / 2 ^ j ≡ n / 2 ^ suc j
half n j = div-div-eq-div-mul n 2 (2 ^ j) ∙ ap (λ m. n / m) (sym (pow-succ' 2 j))

-- each power of four below a number is a halving of its place
pub hilbert-part : (k j : ℕ) (p : ℕ × ℕ) → p.0 < 2 ^ (k + j) → p.1 < 2 ^ (k + j) → hilbert (k + j) p / 4 ^ j ≡ hilbert k (p.0 / 2 ^ j, p.1 / 2 ^ j)
hilbert-part k zero p h g =
    let e : k + 0 ≡ k = omega arith in
    let a : p.0 / 1 ≡ p.0 = omega arith in
    let b : p.1 / 1 ≡ p.1 = omega arith in
    let c : hilbert k p / 1 ≡ hilbert k p = omega arith in
    rw (e, a, b, c) refl
hilbert-part k (suc j) p h g =
    let e : k + suc j ≡ suc (k + j) = omega arith in
    let h' = subst (λ n. p.0 < 2 ^ n) e h in
    let g' = subst (λ n. p.1 < 2 ^ n) e g in
    let w = pow-succ' 2 (k + j) in
    let whole = hilbert (suc (k + j)) p in
    ap (λ n. hilbert n p / 4 ^ suc j) e ∙
    (ap (λ m. whole / m) (pow-succ' 4 j) ∙
    (sym (div-div-eq-div-mul whole 4 (4 ^ j)) ∙
    (ap (λ n. n / 4 ^ j) (hilbert-quarter (k + j) p h' g') ∙
    (hilbert-part k j (halves p) (omega (arith, h', w)) (omega (arith, g', w)) ∙
    (ap (λ x. hilbert k (x, p.1 / 2 / 2 ^ j)) (half p.0 j) ∙
    ap (λ y. hilbert k (p.0 / 2 ^ suc j, y)) (half p.1 j))))))
