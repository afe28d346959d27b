-- Marks in the order of their ids, and whether two of them have one id.
use Rattle.tile_streaming.proofs.Common.{are_distinct, arith, Bool, false, get_or, IsAllAdjacentAnswer, is_lt, IsNonDecreasingBy, IsPermutation, IsPermutation-refl, IsPermutation-sym, IsSortedBy, List, map, nat_cmp}
use Rattle.tile_streaming.proofs.Common.{nat_cmp-IsAntisymmetric, nat_cmp_total, nat_tests, refl, sym, true, ℕ, ◌+◌, ◌∙◌, ◌≡◌, ◌≤◌}
use Rattle.mb_lists.proofs.Sorting.{apart_from_distinct, apart_permuted, distinct_from_apart, not_rising, sorted_in_order}
use Rattle.tile_streaming.specs.declared.mark.Mark.{Mark}

abbrev id : Mark → ℕ
id m = m.id

never_less : (x y : ℕ) → x ≤ y → is_lt (nat_cmp y x) ≡ false
never_less x y h = grind (arith, nat_tests)

-- where each id is below the next one, or some is not
pub apart_by : (ms : List Mark) (r : Bool) → IsNonDecreasingBy (λ m. m.id) ms → IsAllAdjacentAnswer (λ x y b. b ≡ is_lt (nat_cmp x.id y.id)) ms r → r ≡ are_distinct nat_cmp (map (λ m. m.id) ms)
apart_by ms true rises h = sym (distinct_from_apart nat_cmp_total id ms (sorted_in_order nat_cmp_total nat_cmp-IsAntisymmetric id (λ m. false) ms ms (IsPermutation-refl ms) (λ i d lt. refl) h).apart)
apart_by ms false rises h = sym (not_rising nat_cmp_total id ms ms (IsPermutation-refl ms) up h.0 h.1 h.2)
  where
    up : IsSortedBy (λ x y. is_lt (nat_cmp x.id y.id)) ms
    up k d from lt = never_less (get_or ms k d).id (get_or ms (k + 1) d).id (rises k (k + 1) d (omega arith) lt)

-- whether they are apart doesn't hang on the order
pub same_apart : (xs ys : List Mark) → IsPermutation xs ys → are_distinct nat_cmp (map (λ m. m.id) ys) ≡ are_distinct nat_cmp (map (λ m. m.id) xs)
same_apart xs ys p = by (are_distinct nat_cmp (map id xs)) (are_distinct nat_cmp (map id ys)) refl refl
  where
    moved : (ms bs : List Mark) → IsPermutation ms bs → are_distinct nat_cmp (map id ms) ≡ true → are_distinct nat_cmp (map id bs) ≡ true
    moved ms bs q h = distinct_from_apart nat_cmp_total id bs (apart_permuted nat_cmp_total id ms bs q (apart_from_distinct nat_cmp_total id ms h))

    by : (a b : Bool) → are_distinct nat_cmp (map id xs) ≡ a → are_distinct nat_cmp (map id ys) ≡ b → are_distinct nat_cmp (map (λ m. m.id) ys) ≡ are_distinct nat_cmp (map (λ m. m.id) xs)
    by true b e f = moved xs ys p e ∙ sym e
    by false true e f = f ∙ sym (moved ys xs (IsPermutation-sym xs ys p) f)
    by false false e f = f ∙ sym e
