-- The tests and values of digits, lane by lane.
use Rattle.hex_pairs.proofs.Common.{ap, AreDigits, arith, bit_and, bit_or, Bool, cond, digit_value, Each1, eqb, eqb-true, false, Fits, is_hex_digit, lane_value, leb, length, length-map, List, ltb}
use Rattle.hex_pairs.proofs.Common.{ltb-true, map, map-append, map-map, mask_l, mask_l-mod, not, paired, pick_l, refl, replicate, splat_is_map, subst, sym, top, true, w8, zip2, zip2_of_maps}
use Rattle.hex_pairs.proofs.Common.{zip2_splat, ℕ, [], ◌%◌, ◌&&◌, ◌*◌, ◌++◌, ◌+◌, ◌-◌, ◌<◌, ◌^◌, ◌||◌, ◌∙◌, ◌∷◌, ◌≡◌}
use Rattle.std.proofs.lemmas.Bool.{agree_below_at, and_parts, not-false}
use Rattle.hex_pairs.proofs.DigitLemmas.{down}
use Rattle.hex_pairs.proofs.LaneLemmas.{IsVector, listed, listed_is}

abbrev pub plus : ℕ → ℕ → ℕ
plus a b = (a + b) % 2 ^ 8

abbrev pub less : ℕ → ℕ → ℕ
less a b = (a + (2 ^ 8 - b)) % 2 ^ 8

abbrev pub up : ℕ → ℕ → ℕ
up a b = a * 2 ^ b % 2 ^ 8

abbrev pub at_most : ℕ → ℕ → ℕ
at_most a b = cond (leb a b) 255 0

-- ---- the test

abbrev stop : ℕ → ℕ
stop x = bit_and (at_most 10 (less x 48)) (at_most 6 (less (bit_or x 32) 97))

abbrev tests : List ℕ → List ℕ
tests v = zip2 bit_and (zip2 at_most (replicate 16 10) (zip2 less v (replicate 16 48))) (zip2 at_most (replicate 16 6) (zip2 less (zip2 bit_or v (replicate 16 32)) (replicate 16 97)))

tests_are : (v : List ℕ) → length v ≡ 16 → tests v ≡ map stop v
tests_are v long =
    let number = zip2_splat less v 16 48 long in
    let lower = zip2_of_maps less (λ x. bit_or x 32) (λ _. 97) v (zip2_splat bit_or v 16 32 long) (splat_is_map v 16 97 long) in
    let not_number = zip2_of_maps at_most (λ _. 10) (λ x. less x 48) v (splat_is_map v 16 10 long) number in
    let not_letter = zip2_of_maps at_most (λ _. 6) (λ x. less (bit_or x 32) 97) v (splat_is_map v 16 6 long) lower in
    zip2_of_maps bit_and (λ x. at_most 10 (less x 48)) (λ x. at_most 6 (less (bit_or x 32) 97)) v not_number not_letter

none_stops : (v : List ℕ) → Each1 (Fits w8) v → mask_l (map (λ x. top 7 (stop x)) v) ≡ 0 → AreDigits v
none_stops [] fits e = tt
none_stops (x ∷ v) fits e = (digit (top 7 (stop x)) refl (omega (arith, e)), none_stops v fits.1 (omega (arith, e)))
  where
    digit : (t : Bool) → top 7 (stop x) ≡ t → ◌≡◌ {A = ℕ} (cond t 1 0) 0 → is_hex_digit x ≡ true
    digit true p q = absurd (omega (arith, q))
    digit false p q = not-false _ (sym (agree_below_at (λ y. top 7 (stop y)) (λ y. not (is_hex_digit y)) 256 x refl fits.0.fits) ∙ p)

pub digits_pass : (v : List ℕ) → IsVector v → eqb (mask_l (map (top 7) (tests v)) % 2 ^ 64) 0 ≡ true → AreDigits v
digits_pass v fits e =
    let stops = ap (map (top 7)) (tests_are v fits.0) ∙ map-map (top 7) stop v in
    let whole = mask_l-mod (map (λ x. top 7 (stop x)) v) 64 (omega (arith, length-map v (λ x. top 7 (stop x)), fits.0)) in
    none_stops v fits.1 (sym whole ∙ sym (ap (λ l. mask_l l % 2 ^ 64) stops) ∙ eqb-true _ 0 e)

-- ---- the values

abbrev values : List ℕ → List ℕ
values v = zip2 plus (zip2 bit_and v (replicate 16 15)) (zip2 plus (zip2 down v (replicate 16 6)) (zip2 up (zip2 down v (replicate 16 6)) (replicate 16 3)))

pub values_are : (v : List ℕ) → length v ≡ 16 → values v ≡ map lane_value v
values_are v long =
    let letter = zip2_splat down v 16 6 long in
    let eight = zip2_of_maps up (λ x. down x 6) (λ _. 3) v letter (splat_is_map v 16 3 long) in
    let nine = zip2_of_maps plus (λ x. down x 6) (λ x. up (down x 6) 3) v letter eight in
    zip2_of_maps plus (λ x. bit_and x 15) (λ x. plus (down x 6) (up (down x 6) 3)) v (zip2_splat bit_and v 16 15 long) nine

abbrev is_read : ℕ → Bool
is_read x = eqb (lane_value x) (digit_value x) && ltb (digit_value x) 16

value_is : (x : ℕ) → x < 256 → is_hex_digit x ≡ true → (lane_value x ≡ digit_value x) × (digit_value x < 16)
value_is x h e =
    let all = agree_below_at (λ y. not (is_hex_digit y) || is_read y) (λ _. true) 256 x refl h in
    let both = and_parts (eqb (lane_value x) (digit_value x)) _ (sym (ap (λ b. not b || is_read x) e) ∙ all) in
    (eqb-true _ _ both.0, ltb-true _ _ both.1)

-- ---- pairs of values

abbrev evens : List ℕ
evens = 0 ∷ 2 ∷ 4 ∷ 6 ∷ 8 ∷ 10 ∷ 12 ∷ 14 ∷ 16 ∷ 18 ∷ 20 ∷ 22 ∷ 24 ∷ 26 ∷ 28 ∷ 30 ∷ []

abbrev odds : List ℕ
odds = 1 ∷ 3 ∷ 5 ∷ 7 ∷ 9 ∷ 11 ∷ 13 ∷ 15 ∷ 17 ∷ 19 ∷ 21 ∷ 23 ∷ 25 ∷ 27 ∷ 29 ∷ 31 ∷ []

abbrev joined : List ℕ → List ℕ
joined vs = zip2 plus (zip2 up (pick_l 0 vs evens) (replicate 16 4)) (pick_l 0 vs odds)

abbrev by_pairs : List ℕ → List ℕ
by_pairs [] = []
by_pairs (v ∷ []) = []
by_pairs (h ∷ l ∷ vs) = plus (up h 4) l ∷ by_pairs vs

joined_listed : (u v : List ℕ) → joined (listed 16 u ++ listed 16 v) ≡ by_pairs (listed 16 u ++ listed 16 v)
joined_listed u v = refl

joined_is : (u v : List ℕ) → length u ≡ 16 → length v ≡ 16 → joined (u ++ v) ≡ by_pairs (u ++ v)
joined_is u v eu ev =
    let first = subst (λ l. joined (l ++ listed 16 v) ≡ by_pairs (l ++ listed 16 v)) (listed_is 16 u eu) (joined_listed u v) in
    subst (λ l. joined (u ++ l) ≡ by_pairs (u ++ l)) (listed_is 16 v ev) first

pairs_read : (ds : List ℕ) → Each1 (Fits w8) ds → AreDigits ds → by_pairs (map lane_value ds) ≡ paired ds
pairs_read [] fits are = refl
pairs_read (d ∷ []) fits are = refl
pairs_read (h ∷ l ∷ ds) fits are =
    let high = value_is h fits.0.fits are.0 in
    let low = value_is l fits.1.0.fits are.1.0 in
    let byte : plus (up (lane_value h) 4) (lane_value l) ≡ digit_value h * 16 + digit_value l = rw (high.0, low.0) (omega (arith, high.1, low.1)) in
    λ i. byte i ∷ pairs_read ds fits.1.1 are.1.1 i

both_fit : (u v : List ℕ) → Each1 (Fits w8) u → Each1 (Fits w8) v → Each1 (Fits w8) (u ++ v)
both_fit [] v f g = g
both_fit (x ∷ u) v f g = (f.0, both_fit u v f.1 g)

-- the bytes of two vectors of digits, by the values of these
pub bytes_are : (u v first second : List ℕ) → IsVector u → IsVector v → first ≡ map lane_value u → second ≡ map lane_value v → AreDigits (u ++ v) → joined (first ++ second) ≡ paired (u ++ v)
bytes_are u v first second fu fv ea eb are =
    rw (ea, eb) (joined_is (map lane_value u) (map lane_value v) (length-map u lane_value ∙ fu.0) (length-map v lane_value ∙ fv.0)
    ∙ ap by_pairs (sym (map-append lane_value u v)) ∙ pairs_read (u ++ v) (both_fit u v fu.1 fv.1) are)
