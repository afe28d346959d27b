-- The digits of sixteen bytes, and of all bytes.
use Rattle.hex_pairs.proofs.Common.{ap, append_assoc, arith, below_from_Fits, bit_and, drop, Each1-all, Each1-weaker, Each1-zip2, Each2-splat, encode_lower, encode_with, length, length-zip2, List}
use Rattle.hex_pairs.proofs.Common.{map, pick_l, refl, replicate, slice_index, subst, SwzOk, SwzOk-from_below, sym, take, take-add, take-append-drop, w8, zip2, zip2_splat, ℕ, [], ◌%◌, ◌*◌, ◌++◌, ◌+◌}
use Rattle.hex_pairs.proofs.Common.{◌/◌, ◌<◌, ◌^◌, ◌∙◌, ◌∷◌, ◌≡◌}
use Rattle.std.proofs.lemmas.Nat.{and_le_r, and_mask}
use Rattle.hex_pairs.specs.DigitLanes.{high_digit, low_digit}
use Rattle.hex_pairs.proofs.LaneLemmas.{IsVector, listed, listed_is}

abbrev pub down : ℕ → ℕ → ℕ
down a b = a / 2 ^ b

pub high_ok : (v : List ℕ) → IsVector v → SwzOk w8 16 16 0 (zip2 down v (replicate 16 4))
high_ok v fits =
    let small = Each1-weaker (λ a. a < 256) (λ a. a / 16 < 16) (λ a h. omega arith) v (below_from_Fits w8 v fits.1) in
    SwzOk-from_below w8 16 1 16 0 (zip2 down v (replicate 16 4)) refl (omega (arith, length-zip2 down v (replicate 16 4) fits.0))
    (Each1-zip2 down (λ j. j < 16) v (replicate 16 4) (Each2-splat (λ a b. down a b < 16) v 16 4 small))

pub low_ok : (v : List ℕ) → IsVector v → SwzOk w8 16 16 0 (zip2 bit_and v (replicate 16 15))
low_ok v fits =
    let small = Each1-all (λ a. bit_and a 15 < 16) (λ a. omega (arith, and_le_r a 15)) v in
    SwzOk-from_below w8 16 1 16 0 (zip2 bit_and v (replicate 16 15)) refl (omega (arith, length-zip2 bit_and v (replicate 16 15) fits.0))
    (Each1-zip2 bit_and (λ j. j < 16) v (replicate 16 15) (Each2-splat (λ a b. bit_and a b < 16) v 16 15 small))

lower_halves : (v : List ℕ) → map (λ x. bit_and x 15) v ≡ map (λ x. x % 16) v
lower_halves [] = refl
lower_halves (x ∷ v) = let e : bit_and x 15 ≡ x % 16 = and_mask x 4 in λ i. e i ∷ lower_halves v i

pub lower_half : (v : List ℕ) → length v ≡ 16 → zip2 bit_and v (replicate 16 15) ≡ map (λ x. x % 16) v
lower_half v long = zip2_splat bit_and v 16 15 long ∙ lower_halves v

abbrev front : List ℕ
front = 0 ∷ 16 ∷ 1 ∷ 17 ∷ 2 ∷ 18 ∷ 3 ∷ 19 ∷ 4 ∷ 20 ∷ 5 ∷ 21 ∷ 6 ∷ 22 ∷ 7 ∷ 23 ∷ []

abbrev back : List ℕ
back = 8 ∷ 24 ∷ 9 ∷ 25 ∷ 10 ∷ 26 ∷ 11 ∷ 27 ∷ 12 ∷ 28 ∷ 13 ∷ 29 ∷ 14 ∷ 30 ∷ 15 ∷ 31 ∷ []

abbrev woven : List ℕ → List ℕ → List ℕ
woven high low = pick_l 0 (high ++ low) front ++ pick_l 0 (high ++ low) back

woven_listed : (v : List ℕ) → woven (map high_digit (listed 16 v)) (map low_digit (listed 16 v)) ≡ encode_lower (listed 16 v)
unfolding encode_with
woven_listed v = refl

-- first and second digits in turn
pub woven_is : (v high low : List ℕ) → length v ≡ 16 → high ≡ map high_digit v → low ≡ map low_digit v → woven high low ≡ encode_lower v
woven_is v high low long eh el =
    rw (eh, el) (subst (λ l. woven (map high_digit l) (map low_digit l) ≡ encode_lower l) (listed_is 16 v long) (woven_listed v))

encode-append : (t a b : List ℕ) → encode_with t (a ++ b) ≡ encode_with t a ++ encode_with t b
unfolding encode_with
encode-append t [] b = refl
encode-append t (x ∷ a) b = ap (λ l. slice_index t (x / 16) ∷ slice_index t (x % 16) ∷ l) (encode-append t a b)

encode-take : (bytes : List ℕ) (at n : ℕ) → encode_lower (take (at + n) bytes) ≡ encode_lower (take at bytes) ++ encode_lower (take n (drop at bytes))
encode-take bytes at n = ap encode_lower (take-add at n bytes) ∙ encode-append _ (take at bytes) (take n (drop at bytes))

-- two vectors, one behind the other
pub two_stores : (first middle last xs front back : List ℕ) (n : ℕ) → take (n + 16) middle ≡ take n first ++ front → take (n + 16 + 16) last ≡ take (n + 16) middle ++ back → front ++ back ≡ encode_lower xs
    → take (n + 32) last ≡ take n first ++ encode_lower xs
two_stores first middle last xs front back n a b e =
    let two : n + 32 ≡ n + 16 + 16 = omega arith in
    ap (λ k. take k last) two ∙ b ∙ ap (λ l. l ++ back) a ∙ append_assoc (take n first) front back ∙ ap (λ l. take n first ++ l) e

-- one more block is written
pub block_written : (bytes before after : List ℕ) (at : ℕ) → take (2 * at) before ≡ encode_lower (take at bytes) → take (2 * at + 32) after ≡ take (2 * at) before ++ encode_lower (take 16 (drop at bytes))
    → take (2 * (at + 16)) after ≡ encode_lower (take (at + 16) bytes)
block_written bytes before after at i w =
    let two : 2 * (at + 16) ≡ 2 * at + 32 = omega arith in
    ap (λ k. take k after) two ∙ w ∙ ap (λ l. l ++ encode_lower (take 16 (drop at bytes))) i ∙ sym (encode-take bytes at 16)

-- all is written
pub all_written : (bytes before after : List ℕ) (at : ℕ) → take (2 * at) before ≡ encode_lower (take at bytes) → after ≡ take (2 * at) before ++ encode_lower (drop at bytes) → after ≡ encode_lower bytes
all_written bytes before after at i w =
    w ∙ ap (λ l. l ++ encode_lower (drop at bytes)) i ∙ sym (encode-append _ (take at bytes) (drop at bytes)) ∙ ap encode_lower (take-append-drop at bytes)

-- nothing is written yet
pub none_written : (bytes before : List ℕ) → take 0 before ≡ encode_lower (take 0 bytes)
unfolding encode_with
none_written bytes before = refl
