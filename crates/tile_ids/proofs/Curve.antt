-- Numbers along the curve are below four to the zoom, and how many tiles the zooms below have.
use Rattle.tile_ids.proofs.Common.{arith, hilbert, lit<, MAX_TILE_ID, mul-le-mul_left, mul-pow, nat_tests, pow-add, pow-le-pow_right, pow-succ', pow_below, pyramid, quarter, refl, suc, sym, turned}
use Rattle.tile_ids.proofs.Common.{zero, ℕ, ◌%◌, ◌*◌, ◌+◌, ◌<◌, ◌^◌, ◌∙◌, ◌≡◌, ◌≤◌}

pub quarter_below : (s x y : ℕ) → quarter s x y ≤ 3
quarter_below s x y = grind (arith, nat_tests)

pub hilbert_below : (k : ℕ) (p : ℕ × ℕ) → hilbert k p < 4 ^ k
hilbert_below zero p = lit< tt
hilbert_below (suc k) p =
    let h = hilbert_below k (turned (2 ^ k) p.0 p.1) in
    let q = quarter_below (2 ^ k) p.0 p.1 in
    let e = pow-succ' 4 k in
    let m = mul-le-mul_left (4 ^ k) q in
    omega (arith, h, e, m)

pub four_pos : (k : ℕ) → 0 < 4 ^ k
four_pos k = let h = hilbert_below k (0, 0) in omega (arith, h)

-- no power of four of a zoom of 0 to 31 is above that of 31
pub area_below : (z : ℕ) → z ≤ 31 → 4 ^ z ≤ 2 ^ 62
area_below z h = let p = pow-le-pow_right {n = 4} (lit< tt) {i = z} {j = 31} h in omega (arith, p)

-- shifts of one, as the code writes them
pub squared : (k : ℕ) → 2 ^ (2 * k) ≡ 4 ^ k
squared k = let e : 2 * k ≡ k + k = omega arith in rw (e, pow-add 2 k k) (sym (mul-pow 2 2 k))

pub area_of : (k : ℕ) → k ≤ 31 → 1 * 2 ^ (2 * k) % 2 ^ 64 ≡ 4 ^ k
area_of k h = let b = pow_below (2 * k) 64 (omega arith) in let e : 1 * 2 ^ (2 * k) % 2 ^ 64 ≡ 2 ^ (2 * k) = omega (arith, b) in e ∙ squared k

pub pyramid_next : (z : ℕ) → pyramid (suc z) ≡ pyramid z + 4 ^ z
pyramid_next z = let e = pow-succ' 4 z in let p = four_pos z in rw e (omega (arith, p))

-- the third of four to the zoom less one is exact
pub pyramid_exact : (z : ℕ) → 3 * pyramid z + 1 ≡ 4 ^ z
pyramid_exact zero = refl
pyramid_exact (suc z) = let e = pow-succ' 4 z in let n = pyramid_next z in omega (arith, e, n, pyramid_exact z)

-- an id is at most that of the last tile of zoom 31
pub within_pyramid : (z h : ℕ) → z ≤ 31 → h < 4 ^ z → pyramid z + h ≤ MAX_TILE_ID
within_pyramid z h low b = let p = pow-le-pow_right {n = 4} (lit< tt) {i = z} {j = 31} low in omega (arith, b, p)
