-- Tiles of one zoom whose numbers follow each other share a side.
use Rattle.tile_ids.proofs.Common.{ap, arith, Coord, div-mul-add, div_below, false, hilbert, id_of, inl, inr, IsCoord, mod-mul-add, nat_lt, nat_tests, number_of, pow-succ', pow_pos, pyramid, refl}
use Rattle.tile_ids.proofs.Common.{ShareSide, subst, suc, sym, tile_id, true, zero, ℕ, ◌%◌, ◌*◌, ◌+◌, ◌-◌, ◌/◌, ◌<◌, ◌^◌, ◌∙◌, ◌≡◌, ◌⊎◌}
use Rattle.tile_ids.proofs.Curve.{four_pos, hilbert_below}
use Rattle.tile_ids.proofs.Bijection.{unturned, place, placed, place-hilbert, Parted, parted}

-- turning back keeps a shared side
turn_0 : (x y u v : ℕ) → ShareSide (x, y) (u, v) → ShareSide (y, x) (v, u)
turn_0 x y u v b = grind arith

turn_1 : (s x y u v : ℕ) → ShareSide (x, y) (u, v) → ShareSide (x, y + s) (u, v + s)
turn_1 s x y u v b = grind arith

turn_2 : (s x y u v : ℕ) → ShareSide (x, y) (u, v) → ShareSide (x + s, y + s) (u + s, v + s)
turn_2 s x y u v b = grind arith

turn_3 : (s x y u v : ℕ) → x < s → y < s → u < s → v < s → ShareSide (x, y) (u, v) → ShareSide (2 * s - 1 - y, s - 1 - x) (2 * s - 1 - v, s - 1 - u)
turn_3 s x y u v a b c d h = grind arith

turned_back : (s q : ℕ) (p r : ℕ × ℕ) → p.0 < s → p.1 < s → r.0 < s → r.1 < s → ShareSide p r → ShareSide (unturned s q p) (unturned s q r)
turned_back s zero p r a b c d h = turn_0 p.0 p.1 r.0 r.1 h
turned_back s (suc zero) p r a b c d h = turn_1 s p.0 p.1 r.0 r.1 h
turned_back s (suc (suc zero)) p r a b c d h = turn_2 s p.0 p.1 r.0 r.1 h
turned_back s (suc (suc (suc q))) p r a b c d h = turn_3 s p.0 p.1 r.0 r.1 a b c d h

-- the curve begins in the upper left corner
pub hilbert-first : (k : ℕ) → hilbert k (0, 0) ≡ 0
hilbert-first zero = refl
hilbert-first (suc k) =
    let pos = pow_pos k in
    let a : nat_lt 0 (2 ^ k) ≡ true = grind (arith, nat_tests) in
    rw (a, hilbert-first k) (omega arith)

-- and ends in the upper right one
pub hilbert-last : (k : ℕ) → hilbert k (2 ^ k - 1, 0) ≡ 4 ^ k - 1
hilbert-last zero = refl
hilbert-last (suc k) =
    let pos = pow_pos k in
    let four = four_pos k in
    let two = pow-succ' 2 k in
    let more = pow-succ' 4 k in
    let a : nat_lt (2 ^ suc k - 1) (2 ^ k) ≡ false = grind (arith, nat_tests) in
    let b : nat_lt 0 (2 ^ k) ≡ true = grind (arith, nat_tests) in
    let m : 2 ^ k - 1 - 0 ≡ 2 ^ k - 1 = omega arith in
    let n : 2 * 2 ^ k - 1 - (2 ^ suc k - 1) ≡ 0 = omega arith in
    rw (a, b, m, n, hilbert-last k) (omega (arith, more, four))

place-first : (k : ℕ) → place k 0 ≡ (0, 0)
place-first k = ap (place k) (sym (hilbert-first k)) ∙ place-hilbert k (0, 0) (pow_pos k) (pow_pos k)

place-last : (k n : ℕ) → n + 1 ≡ 4 ^ k → place k n ≡ (2 ^ k - 1, 0)
place-last k n e =
    let pos = pow_pos k in
    let m : n ≡ hilbert k (2 ^ k - 1, 0) = omega (arith, e, hilbert-last k) in
    ap (place k) m ∙ place-hilbert k (2 ^ k - 1, 0) (omega (arith, pos)) pos

-- the last place of a quarter and the first of the next
crossing : (s q : ℕ) → 0 < s → q + 1 < 4 → ShareSide (unturned s q (s - 1, 0)) (unturned s (q + 1) (0, 0))
crossing s zero pos h = grind arith
crossing s (suc zero) pos h = grind arith
crossing s (suc (suc zero)) pos h = grind arith
crossing s (suc (suc (suc q))) pos h = absurd (omega (arith, h))

lt_or_eq : (m n : ℕ) → m < n → (m + 1 < n) ⊎ (m + 1 ≡ n)
lt_or_eq m n h = grind arith

within_quarter : (k n : ℕ) → Parted k n → n % 4 ^ k + 1 < 4 ^ k → ShareSide (place k (n % 4 ^ k)) (place k (n % 4 ^ k + 1))
    → ShareSide (place (suc k) n) (place (suc k) (n + 1))
within_quarter k n d l side =
    let m : n + 1 ≡ n / 4 ^ k * 4 ^ k + (n % 4 ^ k + 1) = omega (arith, d.whole) in
    let q : (n + 1) / 4 ^ k ≡ n / 4 ^ k = ap (λ i. i / 4 ^ k) m ∙ div-mul-add (n / 4 ^ k) (4 ^ k) (n % 4 ^ k + 1) l in
    let r : (n + 1) % 4 ^ k ≡ n % 4 ^ k + 1 = ap (λ i. i % 4 ^ k) m ∙ mod-mul-add (n / 4 ^ k) (4 ^ k) (n % 4 ^ k + 1) l in
    let a = placed k (n % 4 ^ k) d.low in
    let b = placed k (n % 4 ^ k + 1) l in
    rw (q, r) (turned_back (2 ^ k) (n / 4 ^ k) (place k (n % 4 ^ k)) (place k (n % 4 ^ k + 1)) a.wide a.high b.wide b.high side)

to_next_quarter : (k n : ℕ) → n + 1 < 4 ^ suc k → Parted k n → n % 4 ^ k + 1 ≡ 4 ^ k → ShareSide (place (suc k) n) (place (suc k) (n + 1))
to_next_quarter k n h d e =
    let four = pow-succ' 4 k in
    let pos = four_pos k in
    let m : n + 1 ≡ (n / 4 ^ k + 1) * 4 ^ k + 0 = omega (arith, d.whole, e) in
    let q : (n + 1) / 4 ^ k ≡ n / 4 ^ k + 1 = ap (λ i. i / 4 ^ k) m ∙ div-mul-add (n / 4 ^ k + 1) (4 ^ k) 0 pos in
    let r : (n + 1) % 4 ^ k ≡ 0 = ap (λ i. i % 4 ^ k) m ∙ mod-mul-add (n / 4 ^ k + 1) (4 ^ k) 0 pos in
    let below : n / 4 ^ k + 1 < 4 = subst (λ i. i < 4) q (div_below (n + 1) (4 ^ k) 4 pos (omega (arith, h, four))) in
    rw (q, r, place-first k, place-last k (n % 4 ^ k) e) (crossing (2 ^ k) (n / 4 ^ k) (pow_pos k) below)

pub next_place : (k n : ℕ) → n + 1 < 4 ^ k → ShareSide (place k n) (place k (n + 1))
next_place zero n h = absurd (omega (arith, h))
next_place (suc k) n h =
    let four = pow-succ' 4 k in
    let d = parted k n (omega (arith, h)) in
    elim (lt_or_eq (n % 4 ^ k) (4 ^ k) d.low) [
      | inl l ↦ within_quarter k n d l (next_place k (n % 4 ^ k) l)
      | inr e ↦ to_next_quarter k n h d e
    ]

-- coordinates of one zoom with consecutive ids
pub neighbours : (c d : Coord) → IsCoord c → IsCoord d → c.z ≡ d.z → id_of d ≡ id_of c + 1 → ShareSide (c.x, c.y) (d.x, d.y)
unfolding tile_id
neighbours c d p q z e =
    let n : number_of d ≡ number_of c + 1 = omega (arith, e, ap pyramid z) in
    let n' : hilbert c.z (d.x, d.y) ≡ number_of c + 1 = ap (λ k. hilbert k (d.x, d.y)) z ∙ n in
    let below : number_of c + 1 < 4 ^ c.z = subst (λ i. i < 4 ^ c.z) n' (hilbert_below c.z (d.x, d.y)) in
    let side = next_place c.z (number_of c) below in
    let a = place-hilbert c.z (c.x, c.y) p.column p.row in
    let b : place c.z (number_of c + 1) ≡ (d.x, d.y) =
    ap (place c.z) (sym n') ∙ place-hilbert c.z (d.x, d.y) (subst (λ k. d.x < 2 ^ k) (sym z) q.column) (subst (λ k. d.y < 2 ^ k) (sym z) q.row)
    in
    subst (λ r. ShareSide (c.x, c.y) r) b (subst (λ r. ShareSide r (place c.z (number_of c + 1))) a side)
