-- What a report counts: different ranges, by the order of ranges.
use Rattle.tile_verify.proofs.Common.{addressed_by, ap, arith, Bool, cond, dedup, dedup_from, false, get_or, get_or-map, length, length-map, List, list_any, map, range_cmp, range_of_part, refl}
use Rattle.tile_verify.proofs.Common.{report_by, same_range, subst, sym, true, VerifyReport, ℕ, [], ◌+◌, ◌<◌, ◌||◌, ◌∙◌, ◌∷◌, ◌≡◌}
use Rattle.std.specs.Cmp.{IsTotalOrder}
use Rattle.std.specs.List.Sorted.{IsPermutation, IsSorted, IsSortedByKey}
use Rattle.std.specs.declared.cmp.Ordering.{Ordering}
use Rattle.std.specs.declared.cmp.Ordering.TheVariants.{Less, Equal, Greater}
use Rattle.std.specs.Ordering.{is_eq, is_lt, nat_cmp, ordering_then}
use Rattle.std.proofs.lemmas.Bool.{false≢true}
use Rattle.std.specs.Set.{distinct_count, is_member}
use Rattle.std.proofs.lemmas.Cmp.{eq_by_cmp_equiv, nat_cmp_total, on_total, then_total}
use Rattle.std.proofs.lemmas.List.Kept.{IsStrictlySortedBy-dedup}
use Rattle.std.proofs.lemmas.List.Sorted.{IsPermutation-map, list_any-IsPermutation}
use Rattle.std.proofs.lemmas.Map.Keys.{IsDistinct-from_sorted}
use Rattle.std.proofs.lemmas.Map.Made.{length-from_keys}

range_total : IsTotalOrder range_cmp
range_total = then_total (on_total (λ (x : ℕ × ℕ). x.0) nat_cmp_total) (on_total (λ (x : ℕ × ℕ). x.1) nat_cmp_total)

-- ranges that the order doesn't tell apart are one
both_equal : (o p : Ordering) → is_eq (ordering_then o p) ≡ true → (o ≡ Equal) × (p ≡ Equal)
both_equal Less p is = absurd (false≢true is)
both_equal Greater p is = absurd (false≢true is)
both_equal Equal Less is = absurd (false≢true is)
both_equal Equal Greater is = absurd (false≢true is)
both_equal Equal Equal is = (refl, refl)

nat_cmp_equal : (a b : ℕ) → nat_cmp a b ≡ Equal → a ≡ b
nat_cmp_equal a b is = grind (arith, is)

same_is : (x k : ℕ × ℕ) → same_range x k ≡ true → x ≡ k
same_is x k is =
    let both = both_equal (nat_cmp x.0 k.0) (nat_cmp x.1 k.1) is in
    ap (λ n. (n, x.1)) (nat_cmp_equal x.0 k.0 both.0) ∙ ap (λ n. (k.0, n)) (nat_cmp_equal x.1 k.1 both.1)

or_twice : (a b : Bool) → (a || (a || b)) ≡ (a || b)
or_twice true b = refl
or_twice false b = refl

-- a range that is dropped is the same as the last one
member_from : (k : ℕ × ℕ) (xs : List (ℕ × ℕ)) (q : ℕ × ℕ) → is_member same_range (dedup_from same_range k xs) q ≡ is_member same_range (k ∷ xs) q
member_from k [] q = refl
member_from k (x ∷ xs) q = by_same (same_range x k) refl (member_from k xs q) (member_from x xs q)
  where
    by_same : (t : Bool) → same_range x k ≡ t → is_member same_range (dedup_from same_range k xs) q ≡ is_member same_range (k ∷ xs) q → is_member same_range (dedup_from same_range x xs) q ≡ is_member same_range (x ∷ xs) q
        → is_member same_range (cond t (dedup_from same_range k xs) (k ∷ dedup_from same_range x xs)) q ≡ is_member same_range (k ∷ x ∷ xs) q
    by_same true is kept next = kept ∙ sym (ap (λ y. same_range q k || (same_range q y || list_any (same_range q) xs)) (same_is x k is) ∙ or_twice (same_range q k) (list_any (same_range q) xs))
    by_same false is kept next = ap (λ t. same_range q k || t) next

pub member_dedup : (xs : List (ℕ × ℕ)) (q : ℕ × ℕ) → is_member same_range (dedup same_range xs) q ≡ is_member same_range xs q
member_dedup [] q = refl
member_dedup (x ∷ xs) q = member_from x xs q

keys_in_order : (sorted : List (ℕ × ℕ × ℕ)) → IsSortedByKey range_of_part range_cmp sorted → IsSorted range_cmp (map range_of_part sorted)
keys_in_order sorted order = λ k d low fits.
    let within : k + 1 < length sorted = subst (λ n. k + 1 < n) (length-map sorted range_of_part) fits in
    let one = get_or-map range_of_part sorted (k + 1) (0, 0, 0) d within in
    let two = get_or-map range_of_part sorted k (0, 0, 0) d (omega (arith, within)) in
    ap (λ x. is_lt (range_cmp x (get_or (map range_of_part sorted) k d))) one ∙ ap (λ x. is_lt (range_cmp (range_of_part (get_or sorted (k + 1) (0, 0, 0))) x)) two ∙ order k (0, 0, 0) low within

-- in order, the ranges that differ from the one before are the different ones
pub changes_counted : (parts sorted : List (ℕ × ℕ × ℕ)) → IsPermutation parts sorted → IsSortedByKey range_of_part range_cmp sorted
    → length (dedup same_range (map range_of_part sorted)) ≡ distinct_count same_range (map range_of_part parts)
changes_counted parts sorted same order =
    let ranges : List (ℕ × ℕ) = map range_of_part sorted in
    length-from_keys (eq_by_cmp_equiv range_total) (dedup same_range ranges) (map range_of_part parts)
    (IsDistinct-from_sorted range_cmp (dedup same_range ranges) (IsStrictlySortedBy-dedup range_total (λ x y. refl) ranges (keys_in_order sorted order)))
    (λ q. member_dedup ranges q ∙ sym (list_any-IsPermutation (same_range q) (map range_of_part parts) ranges (IsPermutation-map range_of_part parts sorted same)))

-- a report by its parts
pub report_is : (leaves addressed entries contents : ℕ) (parts : List (ℕ × ℕ × ℕ)) → addressed ≡ addressed_by parts → entries ≡ length parts → contents ≡ distinct_count same_range (map range_of_part parts)
    → ◌≡◌ {A = VerifyReport} (record { directories = leaves; addressed = addressed; entries = entries; contents = contents }) (report_by leaves parts)
report_is leaves addressed entries contents parts a e c =
    ap (λ n. record { directories = leaves; addressed = n; entries = entries; contents = contents }) a
    ∙ ap (λ n. record { directories = leaves; addressed = addressed_by parts; entries = n; contents = contents }) e
    ∙ ap (λ n. record { directories = leaves; addressed = addressed_by parts; entries = length parts; contents = n }) c
