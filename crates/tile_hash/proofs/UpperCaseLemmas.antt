-- Upper-case digits, and texts that have no lower-case letter.
use Rattle.tile_hash.proofs.Common.{arith, byte_hashed, decimal, digest, encode_lower, encode_upper, encode_with, HashAlgorithm, hashed_from, List, lower_digits, map, map-append, nat_tests}
use Rattle.tile_hash.proofs.Common.{offset_basis, refl, slice_index, sym, upper_digits, ℕ, [], ◌%◌, ◌+◌, ◌/◌, ◌<◌, ◌^◌, ◌∷◌, ◌≡◌}
use Rattle.std.proofs.Math.ListN.{get_or-map}
use Rattle.std.proofs.lemmas.Fmt.{decimal_by_steps}
use Rattle.std.specs.Char.{to_ascii_uppercase}
use Rattle.tile_hash.specs.declared.algorithm.HashAlgorithm.TheVariants.{Md5, Fnv1a, Fnv1aDecimal, Xxh64, Xxh3}

-- a lower-case digit, raised, is the upper-case one, and an upper-case digit stays
digit_raised : (i : ℕ) → to_ascii_uppercase (slice_index lower_digits i) ≡ slice_index upper_digits i
digit_raised i = sym (get_or-map to_ascii_uppercase lower_digits i 0)

digit_stays : (i : ℕ) → to_ascii_uppercase (slice_index upper_digits i) ≡ slice_index upper_digits i
digit_stays i = sym (get_or-map to_ascii_uppercase upper_digits i 0)

-- lower-case text, raised, is the upper-case text
pub encode_raised : (bytes : List ℕ) → map to_ascii_uppercase (encode_lower bytes) ≡ encode_upper bytes
unfolding encode_with
encode_raised [] = refl
encode_raised (b ∷ rest) = rw (digit_raised (b / 16), digit_raised (b % 16), encode_raised rest) refl

pub encode_stays : (bytes : List ℕ) → map to_ascii_uppercase (encode_upper bytes) ≡ encode_upper bytes
unfolding encode_with
encode_stays [] = refl
encode_stays (b ∷ rest) = rw (digit_stays (b / 16), digit_stays (b % 16), encode_stays rest) refl

low_stays : (c : ℕ) → c < 97 → to_ascii_uppercase c ≡ c
low_stays c low = grind (arith, nat_tests)

decimal_stays : (n : ℕ) → n < 2 ^ 64 → map to_ascii_uppercase (decimal n) ≡ decimal n
decimal_stays =
    decimal_by_steps (λ n ds. map to_ascii_uppercase ds ≡ ds)
    (λ n low. rw (low_stays (48 + n) (omega arith)) refl)
    (λ n ds more e.
    rw (map-append to_ascii_uppercase ds ((48 + n % 10) ∷ []), e, low_stays (48 + n % 10) (omega arith)) refl)

hashed_below : (h : ℕ) (bytes : List ℕ) → h < 2 ^ 64 → hashed_from h bytes < 2 ^ 64
unfolding hashed_from
hashed_below h [] low = low
hashed_below h (b ∷ bytes) low = hashed_below (byte_hashed h b) bytes (omega arith)

-- no digest has a lower-case letter
pub digest_stays : (a : HashAlgorithm) (bytes : List ℕ) → map to_ascii_uppercase (digest a bytes) ≡ digest a bytes
digest_stays Md5 bytes = encode_stays _
digest_stays Fnv1a bytes = encode_stays _
digest_stays Fnv1aDecimal bytes = decimal_stays _ (hashed_below offset_basis bytes (omega arith))
digest_stays Xxh64 bytes = encode_stays _
digest_stays Xxh3 bytes = encode_stays _
