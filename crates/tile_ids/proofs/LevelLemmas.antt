-- The curve in each of its four orientations, one level at a time and two.
use Rattle.tile_ids.proofs.Common.{ap, arith, false, hilbert, IsSixteenth, lit<, nat_lt, nat_tests, oriented, pow-succ', quarter, refl, subst, suc, sym, true, turned, zero, ℕ, ◌%◌, ◌*◌, ◌+◌, ◌-◌, ◌/◌}
use Rattle.tile_ids.proofs.Common.{◌<◌, ◌^◌, ◌∙◌, ◌≡◌, ◌≤◌}
use Rattle.tile_ids.proofs.Curve.{quarter_below}

-- the orientation of the curve in a quarter of a square in which it runs in orientation o
abbrev pub inner : ℕ → ℕ → ℕ
inner o (suc zero) = o
inner o (suc (suc zero)) = o
inner zero zero = 1
inner (suc zero) zero = 0
inner (suc (suc zero)) zero = 3
inner (suc (suc (suc o))) zero = 2
inner zero (suc (suc (suc q))) = 3
inner (suc zero) (suc (suc (suc q))) = 2
inner (suc (suc zero)) (suc (suc (suc q))) = 1
inner (suc (suc (suc o))) (suc (suc (suc q))) = 0

-- the quarter of a square that is in this column and row of the four, where the curve runs in orientation o
abbrev pub which : ℕ → ℕ → ℕ → ℕ
which o column row = quarter 1 (oriented o 2 (column, row)).0 (oriented o 2 (column, row)).1

abbrev pub next : ℕ → ℕ → ℕ → ℕ
next o column row = inner o (which o column row)

-- a place of a square of side 2 s lies in quarter q, where it is p in the orientation that the curve has there
record Cut (s x y q : ℕ) (p : ℕ × ℕ) : Type 0 where
  at : quarter s x y ≡ q
  seen : turned s x y ≡ oriented (inner 0 q) s p

cut : (s b c u v x y : ℕ) → b ≤ 1 → c ≤ 1 → u < s → v < s → x ≡ b * s + u → y ≡ c * s + v → Cut s x y (quarter 1 b c) (u, v)
cut s zero zero u v x y i j h g e f =
    let x_is : x ≡ u = omega arith in
    let y_is : y ≡ v = omega arith in
    let a : nat_lt u s ≡ true = grind (arith, nat_tests) in
    let b : nat_lt v s ≡ true = grind (arith, nat_tests) in
    rw (x_is, y_is) record { at = rw (a, b) refl; seen = rw (a, b) refl }
cut s zero (suc zero) u v x y i j h g e f =
    let x_is : x ≡ u = omega arith in
    let y_is : y ≡ v + s = omega arith in
    let a : nat_lt u s ≡ true = grind (arith, nat_tests) in
    let b : nat_lt (v + s) s ≡ false = grind (arith, nat_tests) in
    let m : v + s - s ≡ v = omega arith in
    rw (x_is, y_is) record { at = rw (a, b) refl; seen = rw (a, b, m) refl }
cut s (suc zero) zero u v x y i j h g e f =
    let x_is : x ≡ u + s = omega arith in
    let y_is : y ≡ v = omega arith in
    let a : nat_lt (u + s) s ≡ false = grind (arith, nat_tests) in
    let b : nat_lt v s ≡ true = grind (arith, nat_tests) in
    let m : 2 * s - 1 - (u + s) ≡ s - 1 - u = omega arith in
    rw (x_is, y_is) record { at = rw (a, b) refl; seen = rw (a, b, m) refl }
cut s (suc zero) (suc zero) u v x y i j h g e f =
    let x_is : x ≡ u + s = omega arith in
    let y_is : y ≡ v + s = omega arith in
    let a : nat_lt (u + s) s ≡ false = grind (arith, nat_tests) in
    let b : nat_lt (v + s) s ≡ false = grind (arith, nat_tests) in
    let m : u + s - s ≡ u = omega arith in
    let n : v + s - s ≡ v = omega arith in
    rw (x_is, y_is) record { at = rw (a, b) refl; seen = rw (a, b, m, n) refl }
cut s (suc (suc b)) c u v x y i j h g e f = absurd (omega arith)
cut s zero (suc (suc c)) u v x y i j h g e f = absurd (omega arith)
cut s (suc zero) (suc (suc c)) u v x y i j h g e f = absurd (omega arith)

-- a half and the place in it, counted from the other edge
from_end : (s b u : ℕ) → b ≤ 1 → u < s → 2 * s - 1 - (b * s + u) ≡ (2 - 1 - b) * s + (s - 1 - u)
from_end s zero u h g = omega arith
from_end s (suc zero) u h g = omega arith
from_end s (suc (suc b)) u h g = absurd (omega arith)

-- r is, of two columns and two rows of squares of side s, the place p in the square at h
record Parts (s : ℕ) (h p r : ℕ × ℕ) : Type 0 where
  column : r.0 ≡ h.0 * s + p.0
  row : r.1 ≡ h.1 * s + p.1
  left : h.0 ≤ 1
  top : h.1 ≤ 1
  wide : p.0 < s
  high : p.1 < s

parts : (o s b c u v : ℕ) → b ≤ 1 → c ≤ 1 → u < s → v < s → Parts s (oriented o 2 (b, c)) (oriented o s (u, v)) (oriented o (2 * s) (b * s + u, c * s + v))
parts zero s b c u v i j h g = record { column = refl; row = refl; left = i; top = j; wide = h; high = g }
parts (suc zero) s b c u v i j h g = record { column = refl; row = refl; left = j; top = i; wide = g; high = h }
parts (suc (suc zero)) s b c u v i j h g = record {
  column = from_end s b u i h;
  row = from_end s c v j g;
  left = omega arith;
  top = omega arith;
  wide = omega arith;
  high = omega arith;
}
parts (suc (suc (suc o))) s b c u v i j h g = record {
  column = from_end s c v j g;
  row = from_end s b u i h;
  left = omega arith;
  top = omega arith;
  wide = omega arith;
  high = omega arith;
}

twice : (s u : ℕ) → u < s → s - 1 - (s - 1 - u) ≡ u
twice s u h = omega arith

-- the orientation of a quarter, in the orientation of the whole
joined : (o q s u v : ℕ) → o < 4 → u < s → v < s → oriented (inner 0 q) s (oriented o s (u, v)) ≡ oriented (inner o q) s (u, v)
joined o (suc zero) s u v l h g = refl
joined o (suc (suc zero)) s u v l h g = refl
joined zero zero s u v l h g = refl
joined (suc zero) zero s u v l h g = refl
joined (suc (suc zero)) zero s u v l h g = refl
joined (suc (suc (suc zero))) zero s u v l h g = refl
joined zero (suc (suc (suc q))) s u v l h g = refl
joined (suc zero) (suc (suc (suc q))) s u v l h g = refl
joined (suc (suc zero)) (suc (suc (suc q))) s u v l h g = rw (twice s u h, twice s v g) refl
joined (suc (suc (suc zero))) (suc (suc (suc q))) s u v l h g = rw (twice s u h, twice s v g) refl
joined (suc (suc (suc (suc o)))) q s u v l h g = absurd (omega arith)

-- one level of the curve in an orientation
level : (o k b c u v : ℕ) → o < 4 → b ≤ 1 → c ≤ 1 → u < 2 ^ k → v < 2 ^ k
    → hilbert (suc k) (oriented o (2 ^ suc k) (b * 2 ^ k + u, c * 2 ^ k + v)) ≡ which o b c * 4 ^ k + hilbert k (oriented (next o b c) (2 ^ k) (u, v))
level o k b c u v l i j h g =
    let p = oriented o (2 * 2 ^ k) (b * 2 ^ k + u, c * 2 ^ k + v) in
    let d = parts o (2 ^ k) b c u v i j h g in
    let r = cut (2 ^ k) _ _ _ _ p.0 p.1 d.left d.top d.wide d.high d.column d.row in
    ap (λ s. hilbert (suc k) (oriented o s (b * 2 ^ k + u, c * 2 ^ k + v))) (pow-succ' 2 k) ∙
    (ap (λ q. q * 4 ^ k + hilbert k (turned (2 ^ k) p.0 p.1)) r.at ∙
    ap (λ t. which o b c * 4 ^ k + hilbert k t) (r.seen ∙ joined o (which o b c) (2 ^ k) u v l h g))

-- the number of a sixteenth, and the orientation in it
abbrev pub number_at : ℕ → ℕ → ℕ → ℕ
number_at o column row = 4 * which o (column / 2) (row / 2) + which (next o (column / 2) (row / 2)) (column % 2) (row % 2)

abbrev pub within_at : ℕ → ℕ → ℕ → ℕ
within_at o column row = next (next o (column / 2) (row / 2)) (column % 2) (row % 2)

inner_below : (o q : ℕ) → o < 4 → inner o q < 4
inner_below o (suc zero) h = h
inner_below o (suc (suc zero)) h = h
inner_below zero zero h = lit< tt
inner_below (suc zero) zero h = lit< tt
inner_below (suc (suc zero)) zero h = lit< tt
inner_below (suc (suc (suc o))) zero h = lit< tt
inner_below zero (suc (suc (suc q))) h = lit< tt
inner_below (suc zero) (suc (suc (suc q))) h = lit< tt
inner_below (suc (suc zero)) (suc (suc (suc q))) h = lit< tt
inner_below (suc (suc (suc o))) (suc (suc (suc q))) h = lit< tt

pub within_below : (o column row : ℕ) → o < 4 → within_at o column row < 4
within_below o column row h = inner_below (next o (column / 2) (row / 2)) _ (inner_below o (which o (column / 2) (row / 2)) h)

pub number_below : (o column row : ℕ) → number_at o column row < 16
number_below o column row =
    let a = quarter_below 1 (oriented o 2 (column / 2, row / 2)).0 (oriented o 2 (column / 2, row / 2)).1 in
    let n = next o (column / 2) (row / 2) in
    let b = quarter_below 1 (oriented n 2 (column % 2, row % 2)).0 (oriented n 2 (column % 2, row % 2)).1 in
    omega (arith, a, b)

-- a place among four squares in a row is one among two of twice the side
halved : (m n u : ℕ) → n * m + u ≡ n / 2 * (2 * m) + (n % 2 * m + u)
halved m n u =
    let e : n ≡ n / 2 * 2 + n % 2 = omega arith in
    ap (λ i. i * m + u) e ∙ omega arith

half_below : (m b u : ℕ) → b ≤ 1 → u < m → b * m + u < 2 * m
half_below m zero u h g = omega arith
half_below m (suc zero) u h g = omega arith
half_below m (suc (suc b)) u h g = absurd (omega arith)

grouped : (a b m n h : ℕ) → n ≡ 4 * m → a * n + (b * m + h) ≡ (4 * a + b) * m + h
grouped a b m n h e = rw e (omega arith)

sixteenth : (o k column row : ℕ) (p : ℕ × ℕ) → o < 4 → column < 4 → row < 4 → p.0 < 2 ^ k → p.1 < 2 ^ k
    → hilbert (suc (suc k)) (oriented o (2 ^ suc (suc k)) (column * 2 ^ k + p.0, row * 2 ^ k + p.1))
    ≡ number_at o column row * 4 ^ k + hilbert k (oriented (within_at o column row) (2 ^ k) p)
sixteenth o k column row p l i j h g =
    let w = sym (pow-succ' 2 k) in
    let n = next o (column / 2) (row / 2) in
    let a : column * 2 ^ k + p.0 ≡ column / 2 * 2 ^ suc k + (column % 2 * 2 ^ k + p.0) =
    halved (2 ^ k) column p.0 ∙ ap (λ m. column / 2 * m + (column % 2 * 2 ^ k + p.0)) w in
    let b : row * 2 ^ k + p.1 ≡ row / 2 * 2 ^ suc k + (row % 2 * 2 ^ k + p.1) =
    halved (2 ^ k) row p.1 ∙ ap (λ m. row / 2 * m + (row % 2 * 2 ^ k + p.1)) w in
    let wide = subst (λ m. column % 2 * 2 ^ k + p.0 < m) w (half_below (2 ^ k) (column % 2) p.0 (omega arith) h) in
    let high = subst (λ m. row % 2 * 2 ^ k + p.1 < m) w (half_below (2 ^ k) (row % 2) p.1 (omega arith) g) in
    let u = level o (suc k) (column / 2) (row / 2) (column % 2 * 2 ^ k + p.0) (row % 2 * 2 ^ k + p.1) l (omega arith) (omega arith) wide high in
    let v = level n k (column % 2) (row % 2) p.0 p.1 (inner_below o (which o (column / 2) (row / 2)) l) (omega arith) (omega arith) h g in
    ap (λ x. hilbert (suc (suc k)) (oriented o (2 ^ suc (suc k)) (x, row * 2 ^ k + p.1))) a ∙
    (ap (λ y. hilbert (suc (suc k)) (oriented o (2 ^ suc (suc k)) (column / 2 * 2 ^ suc k + (column % 2 * 2 ^ k + p.0), y))) b ∙
    (u ∙
    (ap (λ r. which o (column / 2) (row / 2) * 4 ^ suc k + r) v ∙
    grouped (which o (column / 2) (row / 2)) (which n (column % 2) (row % 2)) (4 ^ k) (4 ^ suc k) _ (pow-succ' 4 k))))

pub is_sixteenth : (o column row : ℕ) → o < 4 → column < 4 → row < 4 → IsSixteenth o column row (number_at o column row) (within_at o column row)
is_sixteenth o column row l i j = record { runs = λ k p h g. sixteenth o k column row p l i j h g }
