-- The zoom of an id.
use Rattle.tile_ids.proofs.Common.{arith, lit<, pow-le-pow_right, pow-succ', pyramid, suc, ℕ, ◌*◌, ◌+◌, ◌/◌, ◌<◌, ◌^◌, ◌≤◌}
use Rattle.tile_ids.proofs.Curve.{squared, pyramid_exact}

-- half the place of the highest bit of three times the id and one is the zoom
pub zoom_bounds : (id l : ℕ) → 2 ^ l ≤ 3 * id + 1 → 3 * id + 1 < 2 * 2 ^ l → (pyramid (l / 2) ≤ id) × (id < pyramid (l / 2) + 4 ^ (l / 2))
zoom_bounds id l h g =
    let x = pyramid_exact (l / 2) in
    let s = squared (l / 2) in
    let low = pow-le-pow_right {n = 2} (lit< tt) {i = 2 * (l / 2)} {j = l} (omega arith) in
    let high = pow-le-pow_right {n = 2} (lit< tt) {i = l} {j = suc (2 * (l / 2))} (omega arith) in
    let e = pow-succ' 2 (2 * (l / 2)) in
    (omega (arith, h, x, s, low), omega (arith, g, x, s, high, e))
