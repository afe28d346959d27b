-- What the loops over two levels at a time keep.
use Rattle.tile_ids.proofs.Common.{ap, arith, div-div-eq-div-mul, div-mul-add, hilbert, IsSixteenth, le-mul_of_pos_right, lit<, mod-mul-add, mod-pow-add, mod_below, mul-le-mul_left, nat_lt, nat_tests}
use Rattle.tile_ids.proofs.Common.{oriented, pow-le-pow_right, pow-succ', pow_pos, quarter, refl, subst, suc, sym, true, turned, zero, ℕ, ◌%◌, ◌*◌, ◌+◌, ◌-◌, ◌/◌, ◌<◌, ◌^◌, ◌∙◌, ◌≡◌, ◌≤◌}
use Rattle.tile_ids.proofs.Curve.{hilbert_below, area_below, four_pos, squared}

-- from r levels above a zoom, seen in orientation r, the curve begins with the places of the zoom, and in their order
above : (z x y r : ℕ) → r ≤ 1 → x < 2 ^ z → y < 2 ^ z → hilbert (z + r) (oriented r (2 ^ (z + r)) (x, y)) ≡ hilbert z (x, y)
above z x y zero l h g = let e : z + 0 ≡ z = omega arith in ap (λ k. hilbert k (x, y)) e
above z x y (suc zero) l h g =
    let a : nat_lt y (2 ^ z) ≡ true = grind (arith, nat_tests) in
    let b : nat_lt x (2 ^ z) ≡ true = grind (arith, nat_tests) in
    let e : z + 1 ≡ suc z = omega arith in
    let t : quarter (2 ^ z) y x * 4 ^ z + hilbert z (turned (2 ^ z) y x) ≡ hilbert z (x, y) = rw (a, b) (omega arith) in
    ap (λ k. hilbert k (y, x)) e ∙ t
above z x y (suc (suc r)) l h g = absurd (omega arith)

no_quarter : (q m h n : ℕ) → q * m + h ≡ n → n < m → q ≡ 0
no_quarter zero m h n e l = refl
no_quarter (suc q) m h n e l = absurd (omega arith)

first_quarter : (s x y : ℕ) → quarter s x y ≡ 0 → (x < s) × (y < s)
first_quarter s x y e = grind (arith, nat_tests)

-- p is the place of number n of zoom z
pub record Found (z n : ℕ) (p : ℕ × ℕ) : Type 0 where
  pub number : hilbert z p ≡ n
  pub wide : p.0 < 2 ^ z
  pub high : p.1 < 2 ^ z

-- a place seen so whose number is one of the zoom has that number in the zoom
found_above : (z n x y r : ℕ) → r ≤ 1 → n < 4 ^ z → x < 2 ^ (z + r) → y < 2 ^ (z + r)
    → hilbert (z + r) (oriented r (2 ^ (z + r)) (x, y)) ≡ n → Found z n (x, y)
found_above z n x y zero l b h g e =
    let z_is : z + 0 ≡ z = omega arith in
    record {
      number = sym (ap (λ k. hilbert k (x, y)) z_is) ∙ e;
      wide = subst (λ k. x < 2 ^ k) z_is h;
      high = subst (λ k. y < 2 ^ k) z_is g;
    }
found_above z n x y (suc zero) l b h g e =
    let z_is : z + 1 ≡ suc z = omega arith in
    let t : quarter (2 ^ z) y x * 4 ^ z + hilbert z (turned (2 ^ z) y x) ≡ n = sym (ap (λ k. hilbert k (y, x)) z_is) ∙ e in
    let q = first_quarter (2 ^ z) y x (no_quarter _ _ _ _ t b) in
    record { number = sym (above z x y 1 l q.1 q.0) ∙ e; wide = q.1; high = q.0 }
found_above z n x y (suc (suc r)) l b h g e = absurd (omega arith)

-- the levels at which the loops begin: those of the zoom, and one more where the zoom is odd
abbrev pub levels : ℕ → ℕ
levels z = z + z % 2

-- the orientation of the entry with which they begin
pub first : (z : ℕ) → 16 * (z % 2) / 16 ≡ z % 2
first z = omega arith

wider : (z : ℕ) → 2 ^ z ≤ 2 ^ levels z
wider z = pow-le-pow_right {n = 2} (lit< tt) {i = z} {j = levels z} (omega arith)

-- the sixteenths taken so far and the bits that are left make the number of the whole
pub record Walking (z x y number orientation left : ℕ) : Type 0 where
  pub most : left ≤ 32
  pub even : left % 2 ≡ 0
  pub within : orientation < 4
  pub same : number * 4 ^ left + hilbert left (oriented orientation (2 ^ left) (x % 2 ^ left, y % 2 ^ left)) ≡ hilbert z (x, y)

none : (m n : ℕ) → 0 * m + n ≡ n
none m n = omega arith

below_mod : (n m : ℕ) → n < m → n % m ≡ n
below_mod n m h = rw (none m n) at (mod-mul-add 0 m n h)

pub walk_begin : (z x y : ℕ) → z ≤ 31 → x < 2 ^ z → y < 2 ^ z → Walking z x y 0 (z % 2) (levels z)
walk_begin z x y l h g =
    let w = wider z in
    let a = below_mod x (2 ^ levels z) (omega arith) in
    let b = below_mod y (2 ^ levels z) (omega arith) in
    let s : hilbert (levels z) (oriented (z % 2) (2 ^ levels z) (x % 2 ^ levels z, y % 2 ^ levels z)) ≡ hilbert z (x, y) =
    ap (λ i. hilbert (levels z) (oriented (z % 2) (2 ^ levels z) (i, y % 2 ^ levels z))) a ∙
    (ap (λ j. hilbert (levels z) (oriented (z % 2) (2 ^ levels z) (x, j))) b ∙ above z x y (z % 2) (omega arith) h g) in
    record { most = omega arith; even = omega arith; within = omega arith; same = omega (arith, s) }

-- the two bits of a number above its last k
bits : (n k : ℕ) → n % 2 ^ suc (suc k) ≡ n / 2 ^ k % 4 * 2 ^ k + n % 2 ^ k
bits n k = let e : suc (suc k) ≡ 2 + k = omega arith in ap (λ j. n % 2 ^ j) e ∙ mod-pow-add n 2 k

sixteen : (k : ℕ) → 4 ^ suc (suc k) ≡ 16 * 4 ^ k
sixteen k = let a = pow-succ' 4 k in let b = pow-succ' 4 (suc k) in omega arith

four : (k : ℕ) → 2 ^ suc (suc k) ≡ 4 * 2 ^ k
four k = let a = pow-succ' 2 k in let b = pow-succ' 2 (suc k) in omega arith

moved : (n q m w h : ℕ) → w ≡ 16 * m → (16 * n + q) * m + h ≡ n * w + (q * m + h)
moved n q m w h e = rw e (omega arith)

walk_on : (z x y n o k q w : ℕ) → Walking z x y n o (suc (suc k)) → IsSixteenth o (x / 2 ^ k % 4) (y / 2 ^ k % 4) q w → w < 4
    → Walking z x y (16 * n + q) w k
walk_on z x y n o k q w old s l =
    let p = pow_pos k in
    let big = 4 ^ suc (suc k) in
    let side = 2 ^ suc (suc k) in
    let next = hilbert k (oriented w (2 ^ k) (x % 2 ^ k, y % 2 ^ k)) in
    let runs = s.runs k (x % 2 ^ k, y % 2 ^ k) (mod_below x (2 ^ k) p) (mod_below y (2 ^ k) p) in
    record {
      most = omega (arith, old.most);
      even = omega (arith, old.even);
      within = l;
      same =
          moved n q (4 ^ k) big next (sixteen k) ∙
          (ap (λ h. n * big + h) (sym runs) ∙
          (ap (λ i. n * big + hilbert (suc (suc k)) (oriented o side (i, y / 2 ^ k % 4 * 2 ^ k + y % 2 ^ k))) (sym (bits x k)) ∙
          (ap (λ j. n * big + hilbert (suc (suc k)) (oriented o side (x % side, j))) (sym (bits y k)) ∙ old.same)));
    }

-- one turn of the loop, in the code's own words
pub walk_more : (z x y n o left e : ℕ) → 0 < left → Walking z x y n o left
    → IsSixteenth o (x / 2 ^ (left - 2) % 4) (y / 2 ^ (left - 2) % 4) (e % 16) (e / 16) → e < 64 → Walking z x y (16 * n + e % 16) (e / 16) (left - 2)
walk_more z x y n o zero e pos old s l = absurd (omega arith)
walk_more z x y n o (suc zero) e pos old s l = absurd (omega (arith, old.even))
walk_more z x y n o (suc (suc k)) e pos old s l =
    let k_is : suc (suc k) - 2 ≡ k = omega arith in
    let t = subst (λ j. IsSixteenth o (x / 2 ^ j % 4) (y / 2 ^ j % 4) (e % 16) (e / 16)) k_is s in
    subst (λ j. Walking z x y (16 * n + e % 16) (e / 16) j) (sym k_is) (walk_on z x y n o k (e % 16) (e / 16) old t (omega arith))

-- the numbers on the way stay below two to the 62
pub walk_below : (z x y n o left : ℕ) → z ≤ 31 → Walking z x y n o left → n < 2 ^ 62
walk_below z x y n o left h w =
    let b = hilbert_below z (x, y) in
    let p = area_below z h in
    let m = le-mul_of_pos_right n (four_pos left) in
    omega (arith, b, p, m, w.same)

pub walked : (z x y n o left : ℕ) → left ≤ 0 → Walking z x y n o left → n ≡ hilbert z (x, y)
walked z x y n o zero h w = omega (arith, w.same)
walked z x y n o (suc k) h w = absurd (omega arith)

-- where the place so far is, and how the curve runs in the square that is left there
pub record Returning (z number column row orientation left : ℕ) : Type 0 where
  pub most : left ≤ 32
  pub even : left % 2 ≡ 0
  pub within : orientation < 4
  pub wide : column * 2 ^ left + 2 ^ left ≤ 2 ^ levels z
  pub high : row * 2 ^ left + 2 ^ left ≤ 2 ^ levels z
  pub same :
      (p : ℕ × ℕ) → p.0 < 2 ^ left → p.1 < 2 ^ left →
      hilbert (levels z) (oriented (z % 2) (2 ^ levels z) (column * 2 ^ left + p.0, row * 2 ^ left + p.1)) ≡ number / 4 ^ left * 4 ^ left + hilbert left (oriented orientation (2 ^ left) p)

below_div : (n m : ℕ) → n < m → n / m ≡ 0
below_div n m h = rw (none m n) at (div-mul-add 0 m n h)

pub return_begin : (z n : ℕ) → z ≤ 31 → n < 4 ^ z → Returning z n 0 0 (z % 2) (levels z)
return_begin z n l h =
    let b = pow-le-pow_right {n = 4} (lit< tt) {i = z} {j = levels z} (omega arith) in
    let d = below_div n (4 ^ levels z) (omega arith) in
    record {
      most = omega arith;
      even = omega arith;
      within = omega arith;
      wide = omega arith;
      high = omega arith;
      same = λ p u v. rw (none (2 ^ levels z) p.0, none (2 ^ levels z) p.1, d) (sym (none _ _));
    }

joined : (c x m u w : ℕ) → w ≡ 4 * m → (4 * c + x) * m + u ≡ c * w + (x * m + u)
joined c x m u w e = rw e (omega arith)

place_below : (x m u w : ℕ) → x < 4 → u < m → w ≡ 4 * m → x * m + u < w
place_below x m u w h g e = let t : x ≤ 3 = omega arith in let p = mul-le-mul_left m t in omega (arith, p)

room : (c x m w s : ℕ) → x < 4 → w ≡ 4 * m → c * w + w ≤ s → (4 * c + x) * m + m ≤ s
room c x m w s h e l = let t : x ≤ 3 = omega arith in let p = mul-le-mul_left m t in let q = joined c x m m w e in omega (arith, p, q)

parted : (n k h : ℕ) → n / 4 ^ suc (suc k) * 4 ^ suc (suc k) + (n / 4 ^ k % 16 * 4 ^ k + h) ≡ n / 4 ^ k * 4 ^ k + h
parted n k h =
    let m = n / 4 ^ k in
    let e = sixteen k in
    let turn : 16 * 4 ^ k ≡ 4 ^ k * 16 = omega arith in
    let d : n / 4 ^ suc (suc k) ≡ m / 16 = ap (λ j. n / j) (e ∙ turn) ∙ sym (div-div-eq-div-mul n (4 ^ k) 16) in
    let whole : m / 16 * 16 + m % 16 ≡ m = omega arith in
    ap (λ i. i * 4 ^ suc (suc k) + (m % 16 * 4 ^ k + h)) d ∙
    (ap (λ j. m / 16 * j + (m % 16 * 4 ^ k + h)) e ∙
    (omega arith ∙ ap (λ i. i * 4 ^ k + h) whole))

return_on : (z n c r o k a b w : ℕ) → Returning z n c r o (suc (suc k)) → IsSixteenth o a b (n / 4 ^ k % 16) w → a < 4 → b < 4 → w < 4
    → Returning z n (4 * c + a) (4 * r + b) w k
return_on z n c r o k a b w old s h g l =
    let side = 2 ^ suc (suc k) in
    record {
      most = omega (arith, old.most);
      even = omega (arith, old.even);
      within = l;
      wide = room c a (2 ^ k) side (2 ^ levels z) h (four k) old.wide;
      high = room r b (2 ^ k) side (2 ^ levels z) g (four k) old.high;
      same = λ p u v.
          let x = a * 2 ^ k + p.0 in
          let y = b * 2 ^ k + p.1 in
          let i = place_below a (2 ^ k) p.0 side h u (four k) in
          let j = place_below b (2 ^ k) p.1 side g v (four k) in
          let whole = hilbert (levels z) in
          let seen = oriented (z % 2) (2 ^ levels z) in
          ap (λ t. whole (seen (t, (4 * r + b) * 2 ^ k + p.1))) (joined c a (2 ^ k) p.0 side (four k)) ∙
          (ap (λ t. whole (seen (c * side + x, t))) (joined r b (2 ^ k) p.1 side (four k)) ∙
          (old.same (x, y) i j ∙
          (ap (λ t. n / 4 ^ suc (suc k) * 4 ^ suc (suc k) + t) (s.runs k p u v) ∙
          parted n k (hilbert k (oriented w (2 ^ k) p)))));
    }

-- one turn of the loop, in the code's own words
pub return_more : (z n c r o left e : ℕ) → 0 < left → Returning z n c r o left
    → IsSixteenth o (e / 4 % 4) (e % 4) (n / 2 ^ (2 * (left - 2)) % 16) (e / 16) → e < 64
    → Returning z n (4 * c + e / 4 % 4) (4 * r + e % 4) (e / 16) (left - 2)
return_more z n c r o zero e pos old s l = absurd (omega arith)
return_more z n c r o (suc zero) e pos old s l = absurd (omega (arith, old.even))
return_more z n c r o (suc (suc k)) e pos old s l =
    let k_is : suc (suc k) - 2 ≡ k = omega arith in
    let t = subst (λ j. IsSixteenth o (e / 4 % 4) (e % 4) (n / 2 ^ (2 * j) % 16) (e / 16)) k_is s in
    let u = subst (λ m. IsSixteenth o (e / 4 % 4) (e % 4) (n / m % 16) (e / 16)) (squared k) t in
    let more = return_on z n c r o k (e / 4 % 4) (e % 4) (e / 16) old u (omega arith) (omega arith) (omega arith) in
    subst (λ j. Returning z n (4 * c + e / 4 % 4) (4 * r + e % 4) (e / 16) j) (sym k_is) more

narrow : (c left m : ℕ) → m ≤ 32 → c * 2 ^ left + 2 ^ left ≤ 2 ^ m → c < 2 ^ 32
narrow c left m h l =
    let b = pow-le-pow_right {n = 2} (lit< tt) {i = m} {j = 32} h in
    let p = pow_pos left in
    let q = le-mul_of_pos_right c p in
    omega (arith, b, p, q)

-- the columns and rows on the way stay below two to the 32
pub return_below : (z n c r o left : ℕ) → z ≤ 31 → Returning z n c r o left → (c < 2 ^ 32) × (r < 2 ^ 32)
return_below z n c r o left h w = (narrow c left (levels z) (omega arith) w.wide, narrow r left (levels z) (omega arith) w.high)

pub returned : (z n c r o left : ℕ) → left ≤ 0 → n < 4 ^ z → Returning z n c r o left → Found z n (c, r)
returned z n c r o (suc k) h b w = absurd (omega arith)
returned z n c r o zero h b w =
    let a : c * 1 + 0 ≡ c = omega arith in
    let d : r * 1 + 0 ≡ r = omega arith in
    let e : n / 1 * 1 + 0 ≡ n = omega arith in
    let seen = oriented (z % 2) (2 ^ levels z) in
    let s : hilbert (levels z) (seen (c, r)) ≡ n =
    ap (λ t. hilbert (levels z) (seen (t, r))) (sym a) ∙
    (ap (λ t. hilbert (levels z) (seen (c * 1 + 0, t))) (sym d) ∙ (w.same (0, 0) (lit< tt) (lit< tt) ∙ e)) in
    found_above z n c r (z % 2) (omega arith) b (omega (arith, w.wide)) (omega (arith, w.high)) s
