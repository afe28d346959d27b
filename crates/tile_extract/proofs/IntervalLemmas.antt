-- The intervals of a tile, zoom by zoom.
use Rattle.tile_extract.proofs.Common.{ap, append-nil, append_assoc, AreApart, arith, Coord, interval, intervals, intervals_from, IsCoord, List, suc, sym, zero, ℕ, [], ◌++◌, ◌+◌, ◌-◌, ◌^◌, ◌∙◌, ◌∷◌}
use Rattle.tile_extract.proofs.Common.{◌≡◌, ◌≤◌}
use Rattle.tile_ids.specs.Hilbert.{number_of, pyramid}
use Rattle.tile_ids.specs.Interval.{IsInterval}
use Rattle.tile_ids.proofs.Curve.{four_pos, hilbert_below, pyramid_next}
use Rattle.tile_ids.proofs.SubtreeLemmas.{block_below, ends_of_interval}

-- the interval of a zoom lies within its ids
apart_from : (c : Coord) (n z low : ℕ) → c.z ≤ z → low ≤ pyramid z → AreApart low (intervals_from c z n)
apart_from c zero z low from least = tt
apart_from c (suc n) z low from least =
    let room = block_below c.z z (number_of c) from (hilbert_below c.z (c.x, c.y)) in
    let some = four_pos (z - c.z) in
    let next : pyramid (z + 1) ≡ pyramid z + 4 ^ z = ap pyramid (let p : z + 1 ≡ suc z = omega arith in p) ∙ pyramid_next z in (
      omega (arith, least),
      omega (arith, some),
      apart_from c n (z + 1) ((interval c z).1 + 1) (omega (arith, from)) (omega (arith, room, some, next)),
    )

pub apart : (c : Coord) (m : ℕ) → AreApart 0 (intervals c m)
unfolding intervals
apart c m = apart_from c (m + 1 - c.z) c.z 0 (omega arith) (omega arith)

-- the intervals so far, and those from a zoom on
pub none_yet : (c : Coord) (m z : ℕ) → z ≡ c.z → [] ++ intervals_from c z (m + 1 - z) ≡ intervals c m
unfolding intervals
none_yet c m z is = ap (λ k. intervals_from c k (m + 1 - k)) is

pub is_interval : (c : Coord) (z first last : ℕ) → IsCoord c → c.z ≤ z → z ≤ 31 → IsInterval c z (first, last) → interval c z ≡ (first, last)
is_interval c z first last coord low most i =
    let e = ends_of_interval c z (first, last) coord low most i in
    ap (λ k. (k, (interval c z).1)) (sym e.first) ∙ ap (λ k. (first, k)) (sym e.last)

one_more : (c : Coord) (m z : ℕ) → z ≤ m → intervals_from c z (m + 1 - z) ≡ interval c z ∷ intervals_from c (z + 1) (m + 1 - (z + 1))
one_more c m z le = ap (intervals_from c z) (let p : m + 1 - z ≡ suc (m + 1 - (z + 1)) = omega (arith, le) in p)

pub more_intervals : (c : Coord) (m z : ℕ) (found : List (ℕ × ℕ)) → z ≤ m → found ++ intervals_from c z (m + 1 - z) ≡ intervals c m → (found ++ interval c z ∷ []) ++ intervals_from c (z + 1) (m + 1 - (z + 1)) ≡ intervals c m
more_intervals c m z found le so = append_assoc found (interval c z ∷ []) (intervals_from c (z + 1) (m + 1 - (z + 1))) ∙ ap (λ l. found ++ l) (sym (one_more c m z le)) ∙ so

pub all_found : (c : Coord) (m z : ℕ) (found : List (ℕ × ℕ)) → m + 1 ≤ z → found ++ intervals_from c z (m + 1 - z) ≡ intervals c m → found ≡ intervals c m
all_found c m z found past so =
    sym (append-nil found) ∙ ap (λ n. found ++ intervals_from c z n) (let p : 0 ≡ m + 1 - z = omega (arith, past) in p) ∙ so

pub pair_is : (a b x y : ℕ) → a ≡ x → b ≡ y → ◌≡◌ {A = ℕ × ℕ} (a, b) (x, y)
pair_is a b x y p q = ap (λ n. (n, b)) p ∙ ap (λ n. (x, n)) q
