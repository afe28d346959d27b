-- Items in the order of their keys: what a search by halves finds.
use Rattle.mb_lists.proofs.Common.{ap, arith, at_key, Bool, cases_lt, eq_by_cmp, eq_by_cmp_equiv, Err, false, false≢true, find, get_or, get_or-take, get_or_from_slice_get, Greater, IfErr, IfOk, inl}
use Rattle.mb_lists.proofs.Common.{inr, is_eq, is_lt, IsAntisymmetric, IsAt, IsBinarySearchResult, IsGap, IsInOrder, IsSearchInRange, IsTotalOrder, length, length-take-le, Less, List, live_at, None}
use Rattle.mb_lists.proofs.Common.{Ok, Option, Ordering, ordering_reverse, refl, Result, searchable_from_sorted, slice_get_within, Some, sym, take, tied_itself, true, ℕ, ◌+◌, ◌<◌, ◌∙◌, ◌≡◌, ◌≤◌}
use Rattle.mb_lists.proofs.Finding.{find_first, found_in}

less_apart : (o : Ordering) → o ≡ Less → is_eq o ≡ false
less_apart o h = rw h refl

greater_apart : (o : Ordering) → o ≡ Greater → is_eq o ≡ false
greater_apart o h = rw h refl

module _ {K X : Type 0} {R : K → K → Ordering} (total : IsTotalOrder R) (anti : IsAntisymmetric R) (key : X → K) (gone : X → Bool) where
  -- what stands at the place of a key, and what stands where there is none
  pub at_live : (n : ℕ) (xs : List X) (q : K) (i : ℕ) (d : X) → IsAt R key n xs q i → IsInOrder R key gone n xs → live_at R key gone q xs ≡ Some (get_or xs i d)
  at_live n xs q i d at o =
      let lt : i < length xs = let le = o.bound in omega (arith, at.in_range) in
      let e : find (at_key R key q) xs ≡ Some (get_or xs i d) = find_first (at_key R key q) xs i d lt
      (λ k less. (eq_by_cmp_equiv total).symm q (key (get_or xs k d)) ∙ (ap (eq_by_cmp R (key (get_or xs k d))) (sym (at.has_key d)) ∙ o.apart.pairs k i d less lt))
      (ap (eq_by_cmp R q) (at.has_key d) ∙ ap is_eq (tied_itself total q)) in
      rw (e, o.live i d at.in_range) refl

  pub gap_apart : (n : ℕ) (xs : List X) (q : K) (i k : ℕ) (d : X) → IsGap R key n xs q i → k < n → eq_by_cmp R q (key (get_or xs k d)) ≡ false
  gap_apart n xs q i k d g lt = (eq_by_cmp_equiv total).symm q (key (get_or xs k d)) ∙ elim (cases_lt k i) [
    | inl a ↦ less_apart (R (key (get_or xs k d)) q) (g.before k d a)
    | inr b ↦ greater_apart (R (key (get_or xs k d)) q) (g.after k d b lt)
  ]

  pub gap_live : (n : ℕ) (xs : List X) (q : K) (i : ℕ) → IsGap R key n xs q i → IsInOrder R key gone n xs → live_at R key gone q xs ≡ None
  gap_live n xs q i g o = by (find (at_key R key q) xs) refl
    where
      by : (r : Option X) → find (at_key R key q) xs ≡ r → live_at R key gone q xs ≡ None
      by None e = rw e refl
      by (Some x) e =
          let f = found_in (at_key R key q) xs x e in
          let here : get_or xs f.0 x ≡ x = get_or_from_slice_get xs f.0 x x f.1 in
          let lt : f.0 < length xs = slice_get_within xs f.0 x f.1 in
          elim (cases_lt f.0 n) [
            | inl a ↦ absurd (false≢true (sym (ap (λ z. eq_by_cmp R q (key z)) (sym here) ∙ gap_apart n xs q i f.0 x g a) ∙ f.2))
            | inr b ↦ let m : gone x ≡ true = ap gone (sym here) ∙ o.marks f.0 x b lt in rw (e, m) refl
          ]

  pub search_found : (n : ℕ) (xs : List X) (q : K) (r : Result ℕ ℕ) → IsInOrder R key gone n xs → IsSearchInRange r (length (take n xs)) → IsBinarySearchResult (λ y. R (key y) q) (take n xs) r → IfOk r (IsAt R key n xs q)
  search_found n xs q (Ok i) o range h =
      let lt : i < n = omega (arith, range, length-take-le n xs o.bound) in
      record { in_range = lt; has_key = λ d. anti (key (get_or xs i d)) q (ap (λ z. R (key z) q) (sym (get_or-take n xs i d lt)) ∙ h d) }
  search_found n xs q (Err i) o range h = tt

  pub search_absent : (n : ℕ) (xs : List X) (q : K) (r : Result ℕ ℕ) → IsInOrder R key gone n xs → IsSearchInRange r (length (take n xs)) → IsBinarySearchResult (λ y. R (key y) q) (take n xs) r → IfErr r (IsGap R key n xs q)
  search_absent n xs q (Ok i) o range h = tt
  search_absent n xs q (Err i) o range h =
      let len = length-take-le n xs o.bound in
      let le : i ≤ n = omega (arith, range, len) in
      let point = h (searchable_from_sorted total key (take n xs) q (λ k d from less.
      let a : k < n = omega (arith, len) in
      let b : k + 1 < n = omega (arith, len) in
      ap (λ z. is_lt (R (key z) (key (get_or (take n xs) k d)))) (get_or-take n xs (k + 1) d b)
      ∙ (ap (λ z. is_lt (R (key (get_or xs (k + 1) d)) (key z))) (get_or-take n xs k d a)
      ∙ ap is_lt (total.antisymm (key (get_or xs (k + 1) d)) (key (get_or xs k d)) ∙ ap ordering_reverse (o.rising k (k + 1) d (omega arith) b))))) in
      record {
        in_range = le;
        before = λ k d less. ap (λ z. R (key z) q) (sym (get_or-take n xs k d (omega arith))) ∙ point.0 k d (omega arith) less;
        after = λ k d from below. ap (λ z. R (key z) q) (sym (get_or-take n xs k d below)) ∙ point.1 k d from (omega (arith, len));
      }
