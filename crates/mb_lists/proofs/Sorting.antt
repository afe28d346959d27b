-- Sorting items by their keys: their order, and that it changes no map of values.
use Rattle.mb_lists.proofs.Common.{All, All-cons, All-from_get_or, All-from_recursion, All-get_or, All-head, All-permutation, All-tail, AllAdjacentBelow, AllPairs, AllPairs-cons, ap, Apart}
use Rattle.mb_lists.proofs.Common.{are_distinct, arith, at_from_Contains, at_key, Bool, cases_eq, Contains, Contains-get_or, Contains-permutation, entries_by, eq_by_cmp, eq_by_cmp_equiv, Equal, false}
use Rattle.mb_lists.proofs.Common.{false≢true, find, from_entries, get_or, get_or_from_slice_get, Greater, inl, inr, is_eq, is_lt, IsAntisymmetric, IsDistinct, IsInOrder, IsPermutation}
use Rattle.mb_lists.proofs.Common.{IsPermutation-sym, IsSortedBy, IsTotalOrder, length, Less, List, list_any, map, None, none-some, not, Option, option_and_then, Ordering, ordering_reverse}
use Rattle.mb_lists.proofs.Common.{recursion_from_All, refl, same_map, slice_get-get_or, slice_get_within, Some, subst, suc, sym, true, zero, ℕ, [], ◌&&◌, ◌+◌, ◌<◌, ◌∙◌, ◌∷◌, ◌≡◌}
use Rattle.std.proofs.lemmas.Map.Keys.{IsDistinct-IsPermutation}
use Rattle.mb_lists.proofs.Finding.{found_in}
use Rattle.mb_lists.proofs.Items.{Apart-tail, look_up, found_itself, equal_of}

less_of : (o : Ordering) → true ≡ is_lt o → o ≡ Less
less_of Less h = refl
less_of Equal h = absurd (false≢true (sym h))
less_of Greater h = absurd (false≢true (sym h))

pub only_less : (o : Ordering) → is_lt (ordering_reverse o) ≡ false → is_eq o ≡ false → o ≡ Less
only_less Less h k = refl
only_less Equal h k = absurd (false≢true (sym k))
only_less Greater h k = absurd (false≢true (sym h))

module _ {K X : Type 0} {R : K → K → Ordering} (total : IsTotalOrder R) (anti : IsAntisymmetric R) (key : X → K) where
  -- what rises at each step rises
  rising_far : (xs : List X) → AllAdjacentBelow (λ x y. true ≡ is_lt (R (key x) (key y))) xs (length xs) → (i j : ℕ) (d : X) → i < j → j < length xs → R (key (get_or xs i d)) (key (get_or xs j d)) ≡ Less
  rising_far xs h i zero d less lt = absurd (omega arith)
  rising_far xs h i (suc j) d less lt =
      let step : R (key (get_or xs j d)) (key (get_or xs (suc j) d)) ≡ Less = less_of _ (subst (λ n. true ≡ is_lt (R (key (get_or xs j d)) (key (get_or xs n d)))) (omega arith) (h j d (omega arith))) in
      elim (cases_eq i j) [
        | inl e ↦ ap (λ n. R (key (get_or xs n d)) (key (get_or xs (suc j) d))) e ∙ step
        | inr n ↦ total.trans (key (get_or xs i d)) (key (get_or xs j d)) (key (get_or xs (suc j) d)) (rising_far xs h i j d (omega arith) (omega arith)) step
      ]

  pub sorted_in_order : (gone : X → Bool) (xs ys : List X) → IsPermutation xs ys → All (λ x. gone x ≡ false) xs → AllAdjacentBelow (λ x y. true ≡ is_lt (R (key x) (key y))) ys (length ys) → IsInOrder R key gone (length ys) ys
  sorted_in_order gone xs ys p all h = record {
    bound = omega arith;
    apart = record { pairs = λ i j d less lt. ap is_eq (rising_far ys h i j d less lt) };
    rising = rising_far ys h;
    live = λ i d lt. All-get_or (λ x. gone x ≡ false) ys i d lt (All-permutation (λ x. gone x ≡ false) xs ys p all);
    marks = λ i d from lt. absurd (omega arith);
  }

  found_forth : (q : K) (xs ys : List X) → Apart R key ys → IsPermutation xs ys → (x : X) → find (at_key R key q) xs ≡ Some x → find (at_key R key q) ys ≡ Some x
  found_forth q xs ys apart p x h =
      let f = found_in (at_key R key q) xs x h in
      let here : get_or xs f.0 x ≡ x = get_or_from_slice_get xs f.0 x x f.1 in
      let in_it : Contains ys x = Contains-permutation xs ys x p (subst (Contains xs) here (Contains-get_or xs f.0 x (slice_get_within xs f.0 x f.1))) in
      let k = at_from_Contains ys x in_it in
      let same : q ≡ key x = anti q (key x) (equal_of (R q (key x)) f.2) in
      ap (λ z. find (at_key R key z) ys) same ∙ found_itself total key ys k.0 x apart (slice_get-get_or ys k.0 x k.1 ∙ ap Some (k.2 x))

  -- what is found doesn't hang on the order
  pub found_permuted : (q : K) (xs ys : List X) → Apart R key xs → Apart R key ys → IsPermutation xs ys → find (at_key R key q) ys ≡ find (at_key R key q) xs
  found_permuted q xs ys a b p = by (find (at_key R key q) xs) refl (find (at_key R key q) ys) refl
    where
      by : (o : Option X) → find (at_key R key q) xs ≡ o → (r : Option X) → find (at_key R key q) ys ≡ r → find (at_key R key q) ys ≡ find (at_key R key q) xs
      by (Some x) e r f = found_forth q xs ys b p x e ∙ sym e
      by None e (Some y) f = absurd (none-some y (sym e ∙ found_forth q ys xs a (IsPermutation-sym xs ys p) y f))
      by None e None f = f ∙ sym e

  -- nor do the maps of values
  pub map_permuted : {V : Type 0} (value : X → Option V) (xs ys : List X) → Apart R key xs → Apart R key ys → IsPermutation xs ys → from_entries {R = R} (entries_by key value ys) ≡ from_entries (entries_by key value xs)
  map_permuted value xs ys a b p = same_map total anti _ _ (λ q. look_up total key value q ys b ∙ (ap (λ o. option_and_then value o) (found_permuted q xs ys a b p) ∙ sym (look_up total key value q xs a)))

-- apart in one order is apart in any
module _ {K X : Type 0} {R : K → K → Ordering} (total : IsTotalOrder R) (key : X → K) where
  distinct : (xs : List X) → Apart R key xs → IsDistinct (λ x y. eq_by_cmp R (key x) (key y)) xs
  unfolding IsDistinct
  distinct [] h = tt
  distinct (x ∷ xs) h = (recursion_from_All (λ y. eq_by_cmp R (key x) (key y) ≡ false) xs (All-from_get_or (λ y. eq_by_cmp R (key x) (key y) ≡ false) xs x (λ i lt. h.pairs 0 (suc i) x (omega arith) (omega arith))), distinct xs (Apart-tail total key x xs h))

  pairs_of : (xs : List X) → IsDistinct (λ x y. eq_by_cmp R (key x) (key y)) xs → AllPairs (λ x y. eq_by_cmp R (key x) (key y) ≡ false) xs
  unfolding IsDistinct
  pairs_of [] h = λ i j d less lt. absurd (omega arith)
  pairs_of (x ∷ xs) h = AllPairs-cons (λ x y. eq_by_cmp R (key x) (key y) ≡ false) x xs (All-from_recursion (λ y. eq_by_cmp R (key x) (key y) ≡ false) xs h.0) (pairs_of xs h.1)

  pub apart_permuted : (xs ys : List X) → IsPermutation xs ys → Apart R key xs → Apart R key ys
  apart_permuted xs ys p a = record { pairs = pairs_of ys (IsDistinct-IsPermutation (λ x y. eq_by_cmp R (key x) (key y)) (λ x y. (eq_by_cmp_equiv total).symm (key x) (key y)) xs ys p (distinct xs a)) }

  -- the test whether keys are distinct
  none_equal : (q : K) (xs : List X) → list_any (eq_by_cmp R q) (map key xs) ≡ false → All (λ y. eq_by_cmp R q (key y) ≡ false) xs
  none_equal q [] h = λ i d lt. absurd (omega arith)
  none_equal q (x ∷ xs) h = by (eq_by_cmp R q (key x)) refl (λ k. none_equal q xs k)
    where
      by : (b : Bool) → eq_by_cmp R q (key x) ≡ b → (list_any (eq_by_cmp R q) (map key xs) ≡ false → All (λ y. eq_by_cmp R q (key y) ≡ false) xs) → All (λ y. eq_by_cmp R q (key y) ≡ false) (x ∷ xs)
      by true e rest = absurd (false≢true (sym (rw e at h)))
      by false e rest = All-cons (λ y. eq_by_cmp R q (key y) ≡ false) x xs e (rest (rw e at h))

  any_equal : (q : K) (xs : List X) → All (λ y. eq_by_cmp R q (key y) ≡ false) xs → list_any (eq_by_cmp R q) (map key xs) ≡ false
  any_equal q [] h = refl
  any_equal q (x ∷ xs) h = rw (All-head (λ y. eq_by_cmp R q (key y) ≡ false) x xs h) (any_equal q xs (All-tail (λ y. eq_by_cmp R q (key y) ≡ false) x xs h))

  pub apart_from_distinct : (xs : List X) → are_distinct R (map key xs) ≡ true → Apart R key xs
  apart_from_distinct [] h = record { pairs = λ i j d less lt. absurd (omega arith) }
  apart_from_distinct (x ∷ xs) h = by (list_any (eq_by_cmp R (key x)) (map key xs)) refl h (λ k. apart_from_distinct xs k)
    where
      by : (b : Bool) → list_any (eq_by_cmp R (key x)) (map key xs) ≡ b → (not b && are_distinct R (map key xs)) ≡ true → (are_distinct R (map key xs) ≡ true → Apart R key xs) → Apart R key (x ∷ xs)
      by true e h rest = absurd (false≢true h)
      by false e h rest = record { pairs = AllPairs-cons (λ x y. eq_by_cmp R (key x) (key y) ≡ false) x xs (none_equal (key x) xs e) (rest h).pairs }

  pub distinct_from_apart : (xs : List X) → Apart R key xs → are_distinct R (map key xs) ≡ true
  distinct_from_apart [] h = refl
  distinct_from_apart (x ∷ xs) h =
      ap (λ b. not b && are_distinct R (map key xs)) (any_equal (key x) xs (All-from_get_or (λ y. eq_by_cmp R (key x) (key y) ≡ false) xs x (λ i lt. h.pairs 0 (suc i) x (omega arith) (omega arith)))) ∙ distinct_from_apart xs (Apart-tail total key x xs h)

  -- where two neighbours in order don't rise, two keys are equal
  pub not_rising : (xs ys : List X) → IsPermutation xs ys → IsSortedBy (λ x y. is_lt (R (key x) (key y))) ys → (k : ℕ) → k + 1 < length ys → ((d : X) → false ≡ is_lt (R (key (get_or ys k d)) (key (get_or ys (k + 1) d)))) → are_distinct R (map key xs) ≡ false
  not_rising xs [] p up k lt h = absurd (omega arith)
  not_rising xs (y ∷ ys) p up k lt h = by (are_distinct R (map key xs)) refl
    where
      by : (b : Bool) → are_distinct R (map key xs) ≡ b → are_distinct R (map key xs) ≡ false
      by false e = e
      by true e =
          let a = apart_permuted xs (y ∷ ys) p (apart_from_distinct xs e) in
          let x = get_or (y ∷ ys) k y in
          let z = get_or (y ∷ ys) (k + 1) y in
          let less : R (key x) (key z) ≡ Less = only_less (R (key x) (key z)) (ap is_lt (sym (total.antisymm (key z) (key x))) ∙ up k y (omega arith) lt) (a.pairs k (k + 1) y (omega arith) lt) in
          absurd (false≢true (h y ∙ ap is_lt less))
