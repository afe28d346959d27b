-- Each number of a zoom has one place, and each id one coordinate.
use Rattle.tile_ids.proofs.Common.{ap, arith, Bool, Coord, coord_of, div-mul-add, div_below, false, hilbert, id_of, if◌then◌else◌, inl, inr, IsCoord, lit<, MAX_TILE_ID, mod-mul-add, nat_le, nat_lt}
use Rattle.tile_ids.proofs.Common.{nat_tests, pow-le-pow_right, pow-succ', pyramid, quarter, refl, subst, suc, sym, tile_id, true, turned, zero, zoom_up_to, ℕ, ◌%◌, ◌*◌, ◌+◌, ◌-◌, ◌/◌, ◌<◌, ◌^◌, ◌∙◌}
use Rattle.tile_ids.proofs.Common.{◌≡◌, ◌≤◌, ◌⊎◌}
pub use Rattle.tile_ids.specs.Hilbert.{place, unturned}
use Rattle.tile_ids.proofs.Curve.{hilbert_below, four_pos, pyramid_next, within_pyramid}

-- r is the place whose quarter is q and whose place in the quarter is p
pub record Undone (s q : ℕ) (p r : ℕ × ℕ) : Type 0 where
  pub which : quarter s r.0 r.1 ≡ q
  pub back : turned s r.0 r.1 ≡ p
  pub wide : r.0 < 2 * s
  pub high : r.1 < 2 * s

undo_0 : (s x y : ℕ) → x < s → y < s → Undone s 0 (x, y) (y, x)
undo_0 s x y h g =
    let a : nat_lt y s ≡ true = grind (arith, nat_tests) in
    let b : nat_lt x s ≡ true = grind (arith, nat_tests) in
    record { which = rw (a, b) refl; back = rw (a, b) refl; wide = omega arith; high = omega arith }

undo_1 : (s x y : ℕ) → x < s → y < s → Undone s 1 (x, y) (x, y + s)
undo_1 s x y h g =
    let a : nat_lt x s ≡ true = grind (arith, nat_tests) in
    let b : nat_lt (y + s) s ≡ false = grind (arith, nat_tests) in
    let m : y + s - s ≡ y = omega arith in
    record { which = rw (a, b) refl; back = rw (a, b, m) refl; wide = omega arith; high = omega arith }

undo_2 : (s x y : ℕ) → x < s → y < s → Undone s 2 (x, y) (x + s, y + s)
undo_2 s x y h g =
    let a : nat_lt (x + s) s ≡ false = grind (arith, nat_tests) in
    let b : nat_lt (y + s) s ≡ false = grind (arith, nat_tests) in
    let m : x + s - s ≡ x = omega arith in
    let n : y + s - s ≡ y = omega arith in
    record { which = rw (a, b) refl; back = rw (a, b, m, n) refl; wide = omega arith; high = omega arith }

undo_3 : (s x y : ℕ) → x < s → y < s → Undone s 3 (x, y) (2 * s - 1 - y, s - 1 - x)
undo_3 s x y h g =
    let l : s ≤ 2 * s - 1 - y = omega arith in
    let k : s - 1 - x < s = omega arith in
    let a : nat_lt (2 * s - 1 - y) s ≡ false = grind (arith, nat_tests) in
    let b : nat_lt (s - 1 - x) s ≡ true = grind (arith, nat_tests) in
    let m : s - 1 - (s - 1 - x) ≡ x = omega arith in
    let n : 2 * s - 1 - (2 * s - 1 - y) ≡ y = omega arith in
    record { which = rw (a, b) refl; back = rw (a, b, m, n) refl; wide = omega arith; high = omega arith }

pub undo : (s q : ℕ) (p : ℕ × ℕ) → q < 4 → p.0 < s → p.1 < s → Undone s q p (unturned s q p)
undo s zero p l h g = undo_0 s p.0 p.1 h g
undo s (suc zero) p l h g = undo_1 s p.0 p.1 h g
undo s (suc (suc zero)) p l h g = undo_2 s p.0 p.1 h g
undo s (suc (suc (suc zero))) p l h g = undo_3 s p.0 p.1 h g
undo s (suc (suc (suc (suc q)))) p l h g = absurd (omega (arith, l))

-- the place of a number has it
pub record Placed (k n : ℕ) (p : ℕ × ℕ) : Type 0 where
  pub number : hilbert k p ≡ n
  pub wide : p.0 < 2 ^ k
  pub high : p.1 < 2 ^ k

-- a number of a zoom, its quarter and its number within the quarter
pub record Parted (k n : ℕ) : Type 0 where
  pub which : n / 4 ^ k < 4
  pub low : n % 4 ^ k < 4 ^ k
  pub whole : n / 4 ^ k * 4 ^ k + n % 4 ^ k ≡ n

pub parted : (k n : ℕ) → n < 4 ^ suc k → Parted k n
parted k n h =
    let p = four_pos k in
    let e = pow-succ' 4 k in
    record { which = div_below n (4 ^ k) 4 p (omega (arith, h, e)); low = omega (arith, p); whole = omega (arith, p) }

pub placed : (k n : ℕ) → n < 4 ^ k → Placed k n (place k n)
placed zero n h = record { number = omega (arith, h); wide = lit< tt; high = lit< tt }
placed (suc k) n h =
    let w = pow-succ' 2 k in
    let d = parted k n h in
    let r = placed k (n % 4 ^ k) d.low in
    let u = undo (2 ^ k) (n / 4 ^ k) (place k (n % 4 ^ k)) d.which r.wide r.high in
    record {
      number = rw (u.which, u.back, r.number) d.whole;
      wide = omega (arith, u.wide, w);
      high = omega (arith, u.high, w);
    }

-- turning and turning back
pub record Redone (s x y : ℕ) : Type 0 where
  pub back : unturned s (quarter s x y) (turned s x y) ≡ (x, y)
  pub wide : (turned s x y).0 < s
  pub high : (turned s x y).1 < s

pub redo : (s x y : ℕ) → x < 2 * s → y < 2 * s → Redone s x y
redo s x y h g = go (nat_lt x s) (nat_lt y s) refl refl
  where
    go : (a b : Bool) → nat_lt x s ≡ a → nat_lt y s ≡ b → Redone s x y
    go true true e f =
        let l : x < s = grind (arith, nat_tests) in
        let m : y < s = grind (arith, nat_tests) in
        record { back = rw (e, f) refl; wide = rw (e, f) m; high = rw (e, f) l }
    go true false e f =
        let l : x < s = grind (arith, nat_tests) in
        let m : s ≤ y = grind (arith, nat_tests) in
        let n : y - s + s ≡ y = omega arith in
        record { back = rw (e, f, n) refl; wide = rw (e, f) l; high = rw (e, f) (omega arith) }
    go false true e f =
        let l : s ≤ x = grind (arith, nat_tests) in
        let m : y < s = grind (arith, nat_tests) in
        let n : 2 * s - 1 - (2 * s - 1 - x) ≡ x = omega arith in
        let k : s - 1 - (s - 1 - y) ≡ y = omega arith in
        record { back = rw (e, f, n, k) refl; wide = rw (e, f) (omega arith); high = rw (e, f) (omega arith) }
    go false false e f =
        let l : s ≤ x = grind (arith, nat_tests) in
        let m : s ≤ y = grind (arith, nat_tests) in
        let n : x - s + s ≡ x = omega arith in
        let k : y - s + s ≡ y = omega arith in
        record { back = rw (e, f, n, k) refl; wide = rw (e, f) (omega arith); high = rw (e, f) (omega arith) }

pub place-hilbert : (k : ℕ) (p : ℕ × ℕ) → p.0 < 2 ^ k → p.1 < 2 ^ k → place k (hilbert k p) ≡ p
place-hilbert zero p h g =
    let a : 0 ≡ p.0 = omega (arith, h) in
    let b : 0 ≡ p.1 = omega (arith, g) in
    ap (λ x. (x, 0)) a ∙ ap (λ y. (p.0, y)) b
place-hilbert (suc k) p h g =
    let w = pow-succ' 2 k in
    let r = redo (2 ^ k) p.0 p.1 (omega (arith, h, w)) (omega (arith, g, w)) in
    let low = hilbert_below k (turned (2 ^ k) p.0 p.1) in
    let q = div-mul-add (quarter (2 ^ k) p.0 p.1) (4 ^ k) (hilbert k (turned (2 ^ k) p.0 p.1)) low in
    let m = mod-mul-add (quarter (2 ^ k) p.0 p.1) (4 ^ k) (hilbert k (turned (2 ^ k) p.0 p.1)) low in
    rw (q, m, place-hilbert k (turned (2 ^ k) p.0 p.1) r.wide r.high) r.back

-- no two places of a zoom have one number
pub same_place : (k : ℕ) (p r : ℕ × ℕ) → p.0 < 2 ^ k → p.1 < 2 ^ k → r.0 < 2 ^ k → r.1 < 2 ^ k → hilbert k p ≡ hilbert k r → p ≡ r
same_place k p r a b c d e = sym (place-hilbert k p a b) ∙ (ap (place k) e ∙ place-hilbert k r c d)

pub lt_or : (m n : ℕ) → (m < n) ⊎ (n ≤ m)
lt_or m n = grind arith

-- an id lies in its zoom
pub record InZoom (z id : ℕ) : Type 0 where
  pub from : pyramid z ≤ id
  pub below : id < pyramid z + 4 ^ z

pub in_zoom : (k id : ℕ) → id < pyramid (suc k) → InZoom (zoom_up_to k id) id
in_zoom zero id h = record { from = omega arith; below = subst (λ m. id < m) (pyramid_next 0) h }
in_zoom (suc k) id h = cased (nat_le (pyramid (suc k)) id) refl (λ l. in_zoom k id l)
  where
    cased : (t : Bool) → nat_le (pyramid (suc k)) id ≡ t → (id < pyramid (suc k) → InZoom (zoom_up_to k id) id) → InZoom (if t then suc k else zoom_up_to k id) id
    cased true e rest = record { from = grind (arith, nat_tests); below = subst (λ m. id < m) (pyramid_next (suc k)) h }
    cased false e rest = rest (grind (arith, nat_tests))

pub zoom_within : (k id : ℕ) → zoom_up_to k id ≤ k
zoom_within zero id = omega arith
zoom_within (suc k) id = cased (nat_le (pyramid (suc k)) id) (zoom_within k id)
  where
    cased : (t : Bool) → zoom_up_to k id ≤ k → (if t then suc k else zoom_up_to k id) ≤ suc k
    cased true l = omega arith
    cased false l = omega arith

-- the coordinate of an id has it
pub has_id : (id : ℕ) → id ≤ MAX_TILE_ID → IsCoord (coord_of id) × (id_of (coord_of id) ≡ id)
unfolding tile_id coord_of
has_id id h =
    let z : ℕ = zoom_up_to 31 id in
    let r = in_zoom 31 id (omega (arith, h)) in
    let p = placed z (id - pyramid z) (omega (arith, r.from, r.below)) in
    (record { zoom = zoom_within 31 id; column = p.wide; row = p.high }, rw p.number (omega (arith, r.from)))

-- each id of a zoom is below those of the zooms after it
pub pyramid_grows : (y z a : ℕ) → a < 4 ^ y → y < z → pyramid y + a < pyramid z
pyramid_grows y z a h l =
    let e = pow-le-pow_right {n = 4} (lit< tt) {i = suc y} {j = z} (omega (arith, l)) in
    let n = pyramid_next y in
    omega (arith, h, e, n)

-- ids of one value are of one zoom
pub one_zoom : (y z a b : ℕ) → a < 4 ^ y → b < 4 ^ z → pyramid y + a ≡ pyramid z + b → y ≡ z
one_zoom y z a b h g e =
    elim (lt_or y z) [
      | inl l ↦ let p = pyramid_grows y z a h l in absurd (omega (arith, p, e))
      | inr m ↦ elim (lt_or z y) [
        | inl l ↦ let p = pyramid_grows z y b g l in absurd (omega (arith, p, e))
        | inr k ↦ omega (arith, m, k)
      ]
    ]

abbrev at_zoom : ℕ → ℕ × ℕ → Coord
at_zoom z p = record { z = z; x = p.0; y = p.1 }

pub one_id : (c d : Coord) → IsCoord c → IsCoord d → id_of c ≡ id_of d → c ≡ d
unfolding tile_id
one_id c d p q e =
    let z = one_zoom c.z d.z (hilbert c.z (c.x, c.y)) (hilbert d.z (d.x, d.y)) (hilbert_below c.z (c.x, c.y)) (hilbert_below d.z (d.x, d.y)) e in
    let n : hilbert c.z (c.x, c.y) ≡ hilbert d.z (d.x, d.y) = omega (arith, e, ap pyramid z) in
    let a = place-hilbert c.z (c.x, c.y) p.column p.row in
    let b = place-hilbert d.z (d.x, d.y) q.column q.row in
    let same : (c.x, c.y) ≡ (d.x, d.y) = sym a ∙ (ap (λ k. place k (hilbert c.z (c.x, c.y))) z ∙ (ap (place d.z) n ∙ b)) in
    ap (λ k. at_zoom k (c.x, c.y)) z ∙ ap (at_zoom d.z) same

-- no other coordinate has an id than its own
pub is_coord_of : (id : ℕ) (c : Coord) → id ≤ MAX_TILE_ID → IsCoord c → id_of c ≡ id → c ≡ coord_of id
is_coord_of id c h i e = let own = has_id id h in one_id c (coord_of id) i own.0 (e ∙ sym own.1)

-- no coordinate's id is above the maximum
pub id_within : (c : Coord) → IsCoord c → id_of c ≤ MAX_TILE_ID
unfolding tile_id
id_within c h = within_pyramid c.z (hilbert c.z (c.x, c.y)) h.zoom (hilbert_below c.z (c.x, c.y))
