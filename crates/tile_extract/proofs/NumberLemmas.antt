-- The numbers of the code: places of tiles and ids, as they are shifted and added.
use Rattle.tile_extract.proofs.Common.{ap, area_of, arith, Coord, id_of, IsCoord, MAX_TILE_ID, number_of, pyramid, PYRAMID_SIZE_BY_ZOOM, subst, suc, sym, tile_id, ZoomBox, ℕ, ◌%◌, ◌*◌, ◌+◌, ◌-◌, ◌<◌, ◌^◌, ◌∙◌, ◌≡◌, ◌≤◌}
use Rattle.std.proofs.Common.{get_or, lit<}
use Rattle.std.proofs.Math.Nat.{mul-le-mul_right, pow-le-pow_right, pow-succ'}
use Rattle.std.proofs.lemmas.Nat.{pow-add, pow_pos}
use Rattle.tile_ids.proofs.Bijection.{one_zoom}
use Rattle.tile_ids.proofs.Curve.{area_below, four_pos, hilbert_below, within_pyramid}
use Rattle.tile_ids.proofs.PyramidLemmas.{pyramid_size}
use Rattle.tile_ids.proofs.SubtreeLemmas.{block_below}

-- the columns of a tile's descendants are below 2^31
pub shifted : (x z zoom : ℕ) → x < 2 ^ z → z ≤ zoom → zoom ≤ 31 → x * 2 ^ (zoom - z) + 2 ^ (zoom - z) ≤ 2 ^ 31
shifted x z zoom below low most =
    let e : zoom ≡ z + (zoom - z) = omega (arith, low) in
    let m = mul-le-mul_right {m = suc x} {n = 2 ^ z} (2 ^ (zoom - z)) below in
    let p : 2 ^ zoom ≡ 2 ^ z * 2 ^ (zoom - z) = ap (λ k. 2 ^ k) e ∙ pow-add 2 z (zoom - z) in
    let q = pow-le-pow_right {n = 2} (lit< tt) {i = zoom} {j = 31} most in
    omega (arith, m, p, q)

pub shifted_is : (x z zoom : ℕ) → x < 2 ^ z → z ≤ zoom → zoom ≤ 31 → x * 2 ^ (zoom - z) % 4294967296 ≡ x * 2 ^ (zoom - z)
shifted_is x z zoom below low most = let s = shifted x z zoom below low most in omega (arith, s)

pub side_is : (z zoom : ℕ) → z ≤ zoom → zoom ≤ 31 → 1 * 2 ^ (zoom - z) % 4294967296 ≡ 2 ^ (zoom - z)
side_is z zoom low most = let s = shifted 0 z zoom (pow_pos z) low most in omega (arith, s)

pub last_fits : (c : Coord) (x z zoom : ℕ) → z ≡ c.z → x < 2 ^ c.z → c.z ≤ zoom → zoom ≤ 31 → x * 2 ^ (zoom - z) % 4294967296 + (1 * 2 ^ (zoom - z) % 4294967296 - 1) < 2 ^ 32
last_fits c x z zoom e below low most =
    subst (λ k. x * 2 ^ (zoom - k) % 4294967296 + (1 * 2 ^ (zoom - k) % 4294967296 - 1) < 2 ^ 32) (sym e)
    (let s = shifted x c.z zoom below low most in omega (arith, s, shifted_is x c.z zoom below low most, side_is c.z zoom low most, pow_pos (zoom - c.z)))

abbrev pub area_by : ℕ → ℕ → ℕ → ℕ → ZoomBox
area_by zoom z x y = record {
  zoom = zoom;
  min_x = x * 2 ^ (zoom - z) % 4294967296;
  min_y = y * 2 ^ (zoom - z) % 4294967296;
  max_x = x * 2 ^ (zoom - z) % 4294967296 + (1 * 2 ^ (zoom - z) % 4294967296 - 1);
  max_y = y * 2 ^ (zoom - z) % 4294967296 + (1 * 2 ^ (zoom - z) % 4294967296 - 1);
}

pub area_is : (c : Coord) (zoom z x y : ℕ) → IsCoord c → c.z ≤ zoom → zoom ≤ 31 → z ≡ c.z → x ≡ c.x → y ≡ c.y → area_by zoom z x y ≡ area_of c zoom
area_is c zoom z x y q low most e f g = ap (λ k. area_by zoom k x y) e ∙ ap (λ k. area_by zoom c.z k y) f ∙ ap (λ k. area_by zoom c.z c.x k) g ∙ by_parts
  where
    by_parts : area_by zoom c.z c.x c.y ≡ area_of c zoom
    by_parts =
        let a = shifted_is c.x c.z zoom q.column low most in
        let b = shifted_is c.y c.z zoom q.row low most in
        let s = side_is c.z zoom low most in
        let d : c.x * 2 ^ (zoom - c.z) % 4294967296 + (1 * 2 ^ (zoom - c.z) % 4294967296 - 1) ≡ c.x * 2 ^ (zoom - c.z) + (2 ^ (zoom - c.z) - 1) = omega (arith, a, s) in
        let h : c.y * 2 ^ (zoom - c.z) % 4294967296 + (1 * 2 ^ (zoom - c.z) % 4294967296 - 1) ≡ c.y * 2 ^ (zoom - c.z) + (2 ^ (zoom - c.z) - 1) = omega (arith, b, s) in
        λ i. record { zoom = zoom; min_x = a i; min_y = b i; max_x = d i; max_y = h i }

-- the id of a number of a zoom
pub id_within_by : (zoom n : ℕ) → zoom ≤ 31 → n < 4 ^ zoom → get_or PYRAMID_SIZE_BY_ZOOM zoom 0 + n ≤ MAX_TILE_ID
id_within_by zoom n most below = omega (arith, pyramid_size zoom most, within_pyramid zoom n most below)

pub of_number : (c : Coord) (zoom n id : ℕ) → IsCoord c → zoom ≤ 31 → n < 4 ^ zoom → id_of c ≡ id → id ≡ get_or PYRAMID_SIZE_BY_ZOOM zoom 0 + n → (c.z ≡ zoom) × (number_of c ≡ n)
unfolding tile_id
of_number c zoom n id q most below has is =
    let e : pyramid c.z + number_of c ≡ pyramid zoom + n = has ∙ is ∙ ap (λ k. k + n) (pyramid_size zoom most) in
    let z = one_zoom c.z zoom (number_of c) n (hilbert_below c.z (c.x, c.y)) below e in
    (z, omega (arith, e, ap pyramid z))

pub pyramid_is : (zoom : ℕ) → zoom ≤ 31 → get_or PYRAMID_SIZE_BY_ZOOM zoom 0 ≡ pyramid zoom
pyramid_is zoom most = pyramid_size zoom most

-- the ids of a quadrant
pub quadrant_below : (zoom level n : ℕ) → level ≤ zoom → zoom ≤ 31 → n < 4 ^ level → pyramid zoom + n * 4 ^ (zoom - level) + 4 ^ (zoom - level) ≤ MAX_TILE_ID + 1
quadrant_below zoom level n low most below =
    let room = block_below level zoom n low below in
    let some = four_pos (zoom - level) in
    let last = within_pyramid zoom (n * 4 ^ (zoom - level) + (4 ^ (zoom - level) - 1)) most (omega (arith, room, some)) in
    omega (arith, last, some)

-- the numbers of the children of a tile
pub children_below : (zoom level n : ℕ) → level < zoom → zoom ≤ 31 → n < 4 ^ level → (4 * n + 4 ≤ 4 ^ (level + 1)) × (4 ^ (level + 1) ≤ 2 ^ 62)
children_below zoom level n deep most below =
    let s : level + 1 ≡ suc level = omega arith in
    let p : 4 ^ (level + 1) ≡ 4 * 4 ^ level = ap (λ k. 4 ^ k) s ∙ pow-succ' 4 level in
    (omega (arith, p, below), area_below (level + 1) (omega (arith, deep, most)))
