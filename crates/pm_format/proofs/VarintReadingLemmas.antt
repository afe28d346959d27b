-- One turn of the loop that reads a varint.
use Rattle.pm_format.proofs.Common.{add-one, ap, arith, below, drop, drop-cons, drop_all, get_or, inl, inr, length, List, lit<, lt_or, mul-le-mul_right, nat_tests, None, number_at, Option, option_map}
use Rattle.pm_format.proofs.Common.{pow-add, pow-le-pow_right, pow_pos, refl, Some, spelled, suc, sym, zero, ℕ, [], ◌%◌, ◌*◌, ◌+◌, ◌-◌, ◌<◌, ◌^◌, ◌∙◌, ◌∷◌, ◌≡◌, ◌≤◌, ◌⊎◌}

-- what a number read so far and the rest give together
abbrev pub carried : ℕ → ℕ → ℕ × List ℕ → ℕ × List ℕ
carried value scale r = (value + scale * r.0, r.1)

-- after i bytes of a spelling that goes on
pub record Reading (bytes : List ℕ) (at full i value place : ℕ) : Type 0 where
  pub here : place ≡ at + i
  pub within : at + i ≤ length bytes
  pub low : value < 2 ^ (7 * i)
  pub same : spelled (full + 1) (drop at bytes) ≡ option_map (carried value (2 ^ (7 * i))) (spelled (full + 1 - i) (drop place bytes))

next_scale : (i : ℕ) → 2 ^ (7 * (i + 1)) ≡ 2 ^ (7 * i) * 128
next_scale i = let e : 7 * (i + 1) ≡ 7 * i + 7 = omega arith in rw e (pow-add 2 (7 * i) 7)

pub spelled_nothing : (k : ℕ) → spelled k [] ≡ None
spelled_nothing zero = refl
spelled_nothing (suc k) = refl

pub spelled_last : (k b : ℕ) (bs : List ℕ) → b < 128 → spelled (suc k) (b ∷ bs) ≡ Some (b, bs)
spelled_last k b bs h = grind (arith, nat_tests)

pub spelled_more : (k b : ℕ) (bs : List ℕ) → 128 ≤ b → spelled (suc k) (b ∷ bs) ≡ option_map (carried (b % 128) 128) (spelled k bs)
spelled_more k b bs h = grind (arith, nat_tests)

carried_twice : (v s d : ℕ) (x : Option (ℕ × List ℕ)) → option_map (carried v s) (option_map (carried d 128) x) ≡ option_map (carried (v + d * s) (s * 128)) x
carried_twice v s d None = refl
carried_twice v s d (Some r) = let e : v + s * (d + 128 * r.0) ≡ v + d * s + s * 128 * r.0 = omega arith in ap (λ n. Some (n, r.1)) e

-- the byte at a place, and what follows it
pub at_place : (bytes : List ℕ) (n : ℕ) → n < length bytes → drop n bytes ≡ get_or bytes n 0 ∷ drop (n + 1) bytes
at_place bytes n h = rw add-one (drop-cons bytes n 0 h)

-- what is added to the value stays below the next scale
digit_low : (i value d : ℕ) → value < 2 ^ (7 * i) → d < 128 → value + d * 2 ^ (7 * i) < 2 ^ (7 * (i + 1))
digit_low i value d low h =
    let e = next_scale i in
    let most : d ≤ 127 = omega (arith, h) in
    let g = mul-le-mul_right (2 ^ (7 * i)) most in
    omega (arith, e, g, low)

scale_low : (i full : ℕ) → i ≤ full → 2 ^ (7 * i) ≤ 2 ^ (7 * full)
scale_low i full h = let pos : 0 < 2 = lit< tt in let le : 7 * i ≤ 7 * full = omega (arith, h) in pow-le-pow_right pos le

-- a shift within the loop loses nothing, and neither does the sum
pub shift_is : (i d : ℕ) → i < 9 → d < 128 → d * 2 ^ (7 * i) % 18446744073709551616 ≡ d * 2 ^ (7 * i)
shift_is i d h low =
    let zero_low : 0 < 2 ^ (7 * i) = scale_pos i in
    let g = digit_low i 0 d zero_low low in
    let m = scale_low (i + 1) 9 (omega (arith, h)) in
    omega (arith, g, m)
  where
    scale_pos : (i : ℕ) → 0 < 2 ^ (7 * i)
    scale_pos i = pow_pos (7 * i)

pub added : (i d b : ℕ) → i < 9 → d ≡ b % 128 → d * 2 ^ (7 * i) % 18446744073709551616 ≡ b % 128 * 2 ^ (7 * i)
added i d b h e = ap (λ x. x * 2 ^ (7 * i) % 18446744073709551616) e ∙ shift_is i (b % 128) h (omega arith)

pub sum_fits : (i value d : ℕ) → i < 9 → value < 2 ^ (7 * i) → d < 128 → value + d * 2 ^ (7 * i) < 2 ^ 64
sum_fits i value d h low small = let g = digit_low i value d low small in let m = scale_low (i + 1) 9 (omega (arith, h)) in omega (arith, g, m)

-- within the loop the value is below the limit
pub sum_low : (i full value d top : ℕ) → i < full → value < 2 ^ (7 * i) → d < 128 → value + d * 2 ^ (7 * i) < (top + 1) * 2 ^ (7 * full)
sum_low i full value d top h low small =
    let g = digit_low i value d low small in
    let m = scale_low (i + 1) full (omega (arith, h)) in
    let one : 1 ≤ top + 1 = omega arith in
    let t = mul-le-mul_right (2 ^ (7 * full)) one in
    omega (arith, g, m, t)

pub reading_more : (bytes : List ℕ) (at full i value place b : ℕ) → i < full → place < length bytes → drop place bytes ≡ b ∷ drop (place + 1) bytes → 128 ≤ b → Reading bytes at full i value place
    → Reading bytes at full (i + 1) (value + b % 128 * 2 ^ (7 * i)) (place + 1)
reading_more bytes at full i value place b h inside is more r = record {
  here = omega (arith, r.here);
  within = omega (arith, r.here, inside);
  low = digit_low i value (b % 128) r.low (omega arith);
  same =
      r.same ∙ (ap (λ xs. option_map (carried value (2 ^ (7 * i))) (spelled (full + 1 - i) xs)) is
      ∙ (ap (λ k. option_map (carried value (2 ^ (7 * i))) (spelled k (b ∷ drop (place + 1) bytes))) one_left
      ∙ (ap (option_map (carried value (2 ^ (7 * i)))) (spelled_more (full + 1 - (i + 1)) b (drop (place + 1) bytes) more)
      ∙ (carried_twice value (2 ^ (7 * i)) (b % 128) (spelled (full + 1 - (i + 1)) (drop (place + 1) bytes))
      ∙ ap (λ s. option_map (carried (value + b % 128 * 2 ^ (7 * i)) s) (spelled (full + 1 - (i + 1)) (drop (place + 1) bytes))) (sym (next_scale i))))));
}
  where
    one_left : full + 1 - i ≡ suc (full + 1 - (i + 1))
    one_left = omega (arith, h)

-- the bytes end within the spelling
pub reading_end : (bytes : List ℕ) (at full i value place limit : ℕ) → length bytes ≤ place → Reading bytes at full i value place → number_at (full + 1) limit (drop at bytes) ≡ None
reading_end bytes at full i value place limit h r =
    let gone : drop place bytes ≡ [] = drop_all place bytes h in
    ap (below limit) (r.same ∙ (ap (λ xs. option_map (carried value (2 ^ (7 * i))) (spelled (full + 1 - i) xs)) gone ∙ ap (option_map (carried value (2 ^ (7 * i)))) (spelled_nothing (full + 1 - i))))

spelled_here : (bytes : List ℕ) (at full i value place b : ℕ) → i ≤ full → drop place bytes ≡ b ∷ drop (place + 1) bytes → b < 128 → Reading bytes at full i value place
    → spelled (full + 1) (drop at bytes) ≡ Some (value + b * 2 ^ (7 * i), drop (place + 1) bytes)
spelled_here bytes at full i value place b h is low r =
    let one_left : full + 1 - i ≡ suc (full - i) = omega (arith, h) in
    let turned : value + 2 ^ (7 * i) * b ≡ value + b * 2 ^ (7 * i) = omega arith in
    r.same ∙ (ap (λ xs. option_map (carried value (2 ^ (7 * i))) (spelled (full + 1 - i) xs)) is
    ∙ (ap (λ k. option_map (carried value (2 ^ (7 * i))) (spelled k (b ∷ drop (place + 1) bytes))) one_left
    ∙ (ap (option_map (carried value (2 ^ (7 * i)))) (spelled_last (full - i) b (drop (place + 1) bytes) low) ∙ ap (λ n. Some (n, drop (place + 1) bytes)) turned)))

pub below_low : (limit n : ℕ) (rest : List ℕ) → n < limit → below limit (Some (n, rest)) ≡ Some (n, rest)
below_low limit n rest h = grind (arith, nat_tests)

below_high : (limit n : ℕ) (rest : List ℕ) → limit ≤ n → below limit (Some (n, rest)) ≡ None
below_high limit n rest h = grind (arith, nat_tests)

-- a last byte below 128
pub reading_last : (bytes : List ℕ) (at full i value place b limit : ℕ) → i ≤ full → drop place bytes ≡ b ∷ drop (place + 1) bytes → b < 128 → value + b * 2 ^ (7 * i) < limit → Reading bytes at full i value place
    → number_at (full + 1) limit (drop at bytes) ≡ Some (value + b * 2 ^ (7 * i), drop (place + 1) bytes)
reading_last bytes at full i value place b limit h is low fits r = ap (below limit) (spelled_here bytes at full i value place b h is low r) ∙ below_low limit _ _ fits

-- a last byte above what fits
pub reading_big : (bytes : List ℕ) (at full value place b top : ℕ) → drop place bytes ≡ b ∷ drop (place + 1) bytes → top < b → Reading bytes at full full value place
    → number_at (full + 1) ((top + 1) * 2 ^ (7 * full)) (drop at bytes) ≡ None
reading_big bytes at full value place b top is big r = go (lt_or b 128)
  where
    passes : (top + 1) * 2 ^ (7 * full) ≤ value + b * 2 ^ (7 * full)
    passes = let more : top + 1 ≤ b = omega (arith, big) in let g = mul-le-mul_right (2 ^ (7 * full)) more in omega (arith, g)

    one_left : full + 1 - full ≡ 1
    one_left = omega arith

    go : (b < 128) ⊎ (128 ≤ b) → number_at (full + 1) ((top + 1) * 2 ^ (7 * full)) (drop at bytes) ≡ None
    go (inl low) = ap (below ((top + 1) * 2 ^ (7 * full))) (spelled_here bytes at full full value place b (omega arith) is low r) ∙ below_high ((top + 1) * 2 ^ (7 * full)) (value + b * 2 ^ (7 * full)) (drop (place + 1) bytes) passes
    go (inr high) =
        ap (below ((top + 1) * 2 ^ (7 * full)))
        (r.same ∙ (ap (λ xs. option_map (carried value (2 ^ (7 * full))) (spelled (full + 1 - full) xs)) is
        ∙ (ap (λ k. option_map (carried value (2 ^ (7 * full))) (spelled k (b ∷ drop (place + 1) bytes))) one_left
        ∙ ap (option_map (carried value (2 ^ (7 * full)))) (spelled_more 0 b (drop (place + 1) bytes) high))))
