-- What std reads as a number of so many bits.
use Rattle.mb_metadata.proofs.Common.{all_ascii_digits, and_from, and_parts, ap, arith, Bool, cond, decimal, digits_within, Err, false, get_or, length, List, lt-ltb, ltb-true, nat_lt, None}
use Rattle.mb_metadata.proofs.Common.{number_within, Ok, refl, Result, Some, sym, true, true≢false, ℕ, [], ◌&&◌, ◌<◌, ◌^◌, ◌∙◌, ◌∷◌, ◌≡◌, ◌≢◌}
use Rattle.std.specs.Result.{OkIff, result_ok}
use Rattle.std.specs.Str.Parse.{IsNumeral, ParsesUnsigned, digits_value, without_leading_plus}
use Rattle.std.proofs.lemmas.Fmt.{decimal_is_IsNumeral}
use Rattle.std.proofs.lemmas.Str.Parse.{IsNumeralModel, numerals_by_value, tells_all_ascii_digits, without_leading_plus_none}

own : IsNumeralModel (λ ds. all_ascii_digits ds ≡ true) (digits_value 10)
own = numerals_by_value _ tells_all_ascii_digits

abbrev IsSmall : ℕ → List ℕ → Type 0
IsSmall bits ds = IsNumeral 10 ds × (digits_value 10 ds < 2 ^ bits)

abbrev is_small : ℕ → List ℕ → Bool
is_small bits ds = nat_lt 0 (length ds) && all_ascii_digits ds && nat_lt (digits_value 10 ds) (2 ^ bits)

small_from : (bits : ℕ) (ds : List ℕ) → IsSmall bits ds → is_small bits ds ≡ true
small_from bits ds h = and_from _ _ (and_from _ _ (lt-ltb 0 (length ds) h.0.0) (own.from ds h.0.1)) (lt-ltb (digits_value 10 ds) (2 ^ bits) h.1)

small_to : (bits : ℕ) (ds : List ℕ) → is_small bits ds ≡ true → IsSmall bits ds
small_to bits ds e =
    let p = and_parts _ _ e in
    let q = and_parts _ _ p.0 in
    ((ltb-true 0 (length ds) q.0, own.to ds q.1), ltb-true (digits_value 10 ds) (2 ^ bits) p.1)

of_digits : (bits : ℕ) (ds : List ℕ) (b : Bool) → is_small bits ds ≡ b → digits_within bits ds ≡ cond b (Some (digits_value 10 ds)) None
of_digits bits ds b e = ap (λ c. cond c (Some (digits_value 10 ds)) None) e

by : {E : Type 0} (bits : ℕ) (ds : List ℕ) (r : Result ℕ E) (b : Bool) → is_small bits ds ≡ b → OkIff r (IsSmall bits ds) (digits_value 10 ds) → result_ok r ≡ digits_within bits ds
by bits ds (Ok n) true e h = ap Some h.1 ∙ sym (of_digits bits ds true e)
by bits ds (Ok n) false e h = absurd (true≢false (sym (small_from bits ds h.0) ∙ e))
by bits ds (Err x) true e h = absurd (h (small_to bits ds e))
by bits ds (Err x) false e h = sym (of_digits bits ds false e)

pub number_read : {E : Type 0} (bits : ℕ) (text : List ℕ) (r : Result ℕ E) → ParsesUnsigned bits 10 text r → result_ok r ≡ number_within bits text
unfolding number_within
number_read bits text r h = by bits (without_leading_plus text) r (is_small bits (without_leading_plus text)) refl h

-- what is printed of a number is digits, and is read as it
pub printed_digits : (n : ℕ) → n < 2 ^ 64 → all_ascii_digits (decimal n) ≡ true
printed_digits n wide = own.from (decimal n) (decimal_is_IsNumeral n wide).0.1

no_plus : (ds : List ℕ) → all_ascii_digits ds ≡ true → 0 < length ds → get_or ds 0 0 ≢ 43
no_plus [] h lt = absurd (omega (arith, lt))
no_plus (c ∷ cs) h lt = λ e. let digit = (tells_all_ascii_digits.parts c cs h).0 in let plus : c ≡ 43 = e in omega (arith, digit.0, plus)

pub number_back : (bits n : ℕ) → n < 2 ^ bits → n < 2 ^ 64 → number_within bits (decimal n) ≡ Some n
unfolding number_within
number_back bits n lt wide =
    let printed = decimal_is_IsNumeral n wide in
    let low : digits_value 10 (decimal n) < 2 ^ bits = omega (arith, printed.1, lt) in
    ap (digits_within bits) (without_leading_plus_none (decimal n) (no_plus (decimal n) (printed_digits n wide) printed.0.0))
    ∙ (of_digits bits (decimal n) true (small_from bits (decimal n) (printed.0, low)) ∙ ap Some printed.1)
