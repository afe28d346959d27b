-- The ids of a tile's descendants at a zoom are those of one interval.
use Rattle.tile_ids.proofs.Common.{ap, arith, Coord, div-add-mod', div-mul-add, div_below, hilbert, id_of, IsCoord, IsDescendant, MAX_TILE_ID, mul-le-mul_right, number_of, pow-add, pow_pos, pyramid}
use Rattle.tile_ids.proofs.Common.{refl, subst, suc, sym, tile_id, ℕ, ◌%◌, ◌*◌, ◌+◌, ◌-◌, ◌/◌, ◌<◌, ◌^◌, ◌↔◌, ◌∙◌, ◌≡◌, ◌≤◌}
use Rattle.tile_ids.specs.Interval.{IsInterval, HoldsDescendants}
use Rattle.tile_ids.proofs.Curve.{hilbert_below, four_pos}
use Rattle.tile_ids.proofs.Bijection.{place, placed, same_place, id_within}
use Rattle.tile_ids.proofs.HalvingLemmas.{hilbert-part}

-- the numbers with one quotient
quotient : (a m n : ℕ) → 0 < m → n / m ≡ a → (a * m ≤ n) × (n < a * m + m)
quotient a m n pos e =
    let w : a * m + n % m ≡ n = ap (λ q. q * m + n % m) (sym e) ∙ div-add-mod' n m in
    (omega (arith, w), omega (arith, w, pos))

quotient_back : (a m n : ℕ) → a * m ≤ n → n < a * m + m → n / m ≡ a
quotient_back a m n h g =
    let e : n ≡ a * m + (n - a * m) = omega (arith, h) in
    ap (λ k. k / m) e ∙ div-mul-add a m (n - a * m) (omega (arith, h, g))

-- the number of a tile over a descendant
pub number_above : (c d : Coord) → IsCoord d → IsDescendant c d → number_of d / 4 ^ (d.z - c.z) ≡ number_of c
number_above c d p w =
    let j = d.z - c.z in
    let e : d.z ≡ c.z + j = omega (arith, w.zoom) in
    let part = hilbert-part c.z j (d.x, d.y) (subst (λ k. d.x < 2 ^ k) e p.column) (subst (λ k. d.y < 2 ^ k) e p.row) in
    ap (λ k. hilbert k (d.x, d.y) / 4 ^ j) e ∙ (part ∙ (ap (λ x. hilbert c.z (x, d.y / 2 ^ j)) w.column ∙ ap (λ y. hilbert c.z (c.x, y)) w.row))

narrow : (z j x : ℕ) → x < 2 ^ (z + j) → 0 < 2 ^ j → x / 2 ^ j < 2 ^ z
narrow z j x h pos = div_below x (2 ^ j) (2 ^ z) pos (subst (λ m. x < m) (pow-add 2 z j) h)

pub descendant_by_number : (c d : Coord) → IsCoord c → IsCoord d → c.z ≤ d.z → number_of d / 4 ^ (d.z - c.z) ≡ number_of c → IsDescendant c d
descendant_by_number c d q p low n =
    let j = d.z - c.z in
    let e : d.z ≡ c.z + j = omega (arith, low) in
    let h = subst (λ k. d.x < 2 ^ k) e p.column in
    let g = subst (λ k. d.y < 2 ^ k) e p.row in
    let part = hilbert-part c.z j (d.x, d.y) h g in
    let pos : 0 < 2 ^ j = pow_pos j in
    let number = sym part ∙ (ap (λ k. hilbert k (d.x, d.y) / 4 ^ j) (sym e) ∙ n) in
    let same = same_place c.z (d.x / 2 ^ j, d.y / 2 ^ j) (c.x, c.y) (narrow c.z j d.x h pos) (narrow c.z j d.y g pos) q.column q.row number in
    record { zoom = low; column = ap (λ r. r.0) same; row = ap (λ r. r.1) same }

-- the first and the last id of the numbers with this tile's quotient
pub record Ends (c : Coord) (zoom : ℕ) (ids : ℕ × ℕ) : Type 0 where
  pub first : ids.0 ≡ pyramid zoom + number_of c * 4 ^ (zoom - c.z)
  pub last : ids.1 ≡ pyramid zoom + number_of c * 4 ^ (zoom - c.z) + (4 ^ (zoom - c.z) - 1)

at_level : (c d : Coord) (ids : ℕ × ℕ) → IsCoord c → IsCoord d → c.z ≤ d.z → Ends c d.z ids → IsDescendant c d ↔ ((ids.0 ≤ id_of d) × (id_of d ≤ ids.1))
unfolding tile_id
at_level c d ids q p low e =
    let pos = four_pos (d.z - c.z) in (
      λ w. let b = quotient (number_of c) (4 ^ (d.z - c.z)) (number_of d) pos (number_above c d p w) in (omega (arith, e.first, b), omega (arith, e.last, b)),
      λ w. descendant_by_number c d q p low
          (quotient_back (number_of c) (4 ^ (d.z - c.z)) (number_of d) (omega (arith, e.first, w)) (omega (arith, e.last, w, pos))),
    )

-- the ids between are those of the descendants
pub between : (c d : Coord) (zoom : ℕ) (ids : ℕ × ℕ) → IsCoord c → IsCoord d → c.z ≤ zoom → d.z ≡ zoom → Ends c zoom ids → IsDescendant c d ↔ ((ids.0 ≤ id_of d) × (id_of d ≤ ids.1))
between c d zoom ids q p low level e =
    at_level c d ids q p (subst (λ k. c.z ≤ k) (sym level) low) (subst (λ k. Ends c k ids) (sym level) e)

-- the tile of a number
pub tile_at : (zoom n : ℕ) → zoom ≤ 31 → n < 4 ^ zoom → (d : Coord) × IsCoord d × (d.z ≡ zoom) × (id_of d ≡ pyramid zoom + n)
unfolding tile_id
tile_at zoom n h g =
    let p = placed zoom n g in
    let xy = place zoom n in
    (record { z = zoom; x = xy.0; y = xy.1 }, record { zoom = h; column = p.wide; row = p.high }, refl, ap (λ m. pyramid zoom + m) p.number)

-- the numbers of a tile's descendants are numbers of the zoom
pub block_below : (z zoom n : ℕ) → z ≤ zoom → n < 4 ^ z → n * 4 ^ (zoom - z) + 4 ^ (zoom - z) ≤ 4 ^ zoom
block_below z zoom n h g =
    let e : zoom ≡ z + (zoom - z) = omega (arith, h) in
    let m = mul-le-mul_right {m = suc n} {n = 4 ^ z} (4 ^ (zoom - z)) g in
    subst (λ k. n * 4 ^ (zoom - z) + 4 ^ (zoom - z) ≤ 4 ^ k) (sym e) (rw (pow-add 4 z (zoom - z)) (omega (arith, m)))

pub interval : (c : Coord) (zoom : ℕ) (ids : ℕ × ℕ) → IsCoord c → c.z ≤ zoom → zoom ≤ 31 → Ends c zoom ids → IsInterval c zoom ids
interval c zoom ids q low h e =
    let pos = four_pos (zoom - c.z) in
    let room = block_below c.z zoom (number_of c) low (hilbert_below c.z (c.x, c.y)) in
    let a = tile_at zoom (number_of c * 4 ^ (zoom - c.z)) h (omega (arith, room, pos)) in
    let b = tile_at zoom (number_of c * 4 ^ (zoom - c.z) + (4 ^ (zoom - c.z) - 1)) h (omega (arith, room, pos)) in
    let within = λ (d : Coord) (p : IsCoord d) (level : d.z ≡ zoom). between c d zoom ids q p low level e in
    let first : id_of a.0 ≡ ids.0 = a.3 ∙ sym e.first in
    let last : id_of b.0 ≡ ids.1 = omega (arith, b.3, e.last) in
    let a_below = (within a.0 a.1 a.2).1 (omega (arith, first), omega (arith, first, e.first, e.last)) in
    let b_below = (within b.0 b.1 b.2).1 (omega (arith, last, e.first, e.last), omega (arith, last)) in
    record {
      first = record {
        taken = (a.0, record { coord = a.1; level = a.2; descends = a_below }, first);
        least = λ d w. ((within d w.coord w.level).0 w.descends).0;
      };
      last = record {
        taken = (b.0, record { coord = b.1; level = b.2; descends = b_below }, last);
        greatest = λ d w. ((within d w.coord w.level).0 w.descends).1;
      };
    }

-- the ends are the only first and last id
pub ends_of_interval : (c : Coord) (zoom : ℕ) (ids : ℕ × ℕ) → IsCoord c → c.z ≤ zoom → zoom ≤ 31 → IsInterval c zoom ids → Ends c zoom ids
ends_of_interval c zoom ids q low h i =
    let first = pyramid zoom + number_of c * 4 ^ (zoom - c.z) in
    let last = pyramid zoom + number_of c * 4 ^ (zoom - c.z) + (4 ^ (zoom - c.z) - 1) in
    let k = interval c zoom (first, last) q low h record { first = refl; last = refl } in
    let f = i.first.taken in
    let l = i.last.taken in
    let f' = k.first.taken in
    let l' = k.last.taken in
    record {
      first = omega (arith, f.2, f'.2, k.first.least f.0 f.1, i.first.least f'.0 f'.1);
      last = omega (arith, l.2, l'.2, k.last.greatest l.0 l.1, i.last.greatest l'.0 l'.1);
    }

-- an id of the zoom lies in the interval exactly where its tile is a descendant
pub interval_law : (c : Coord) (zoom : ℕ) (ids : ℕ × ℕ) → IsCoord c → IsInterval c zoom ids → HoldsDescendants c zoom ids
interval_law c zoom ids q i d p level =
    let a = i.first.taken in
    let low : c.z ≤ zoom = omega (arith, a.1.descends.zoom, a.1.level) in
    let h : zoom ≤ 31 = omega (arith, p.zoom, level) in
    between c d zoom ids q p low level (ends_of_interval c zoom ids q low h i)

-- the last id of the interval is an id
pub interval_within : (c : Coord) (zoom : ℕ) (ids : ℕ × ℕ) → IsInterval c zoom ids → ids.1 ≤ MAX_TILE_ID
interval_within c zoom ids i = let l = i.last.taken in omega (arith, l.2, id_within l.0 l.1.coord)

-- the interval, from the first id and the count of descendants
pub block_interval : (c : Coord) (zoom z first count : ℕ) → IsCoord c → z ≡ c.z → z ≤ zoom → zoom ≤ 31
    → first ≡ pyramid zoom + number_of c * 4 ^ (zoom - c.z) → count ≡ 4 ^ (zoom - c.z) → IsInterval c zoom (first, first + (count - 1))
block_interval c zoom z first count q e low h f g =
    interval c zoom (first, first + (count - 1)) q (omega (arith, e, low)) h record { first = f; last = rw (f, g) refl }
