-- The latest item of each key: what is found, and how a stable sort brings it to the front of its key.
use Rattle.mb_lists.proofs.Common.{All, All-cons, All-from_recursion, All-permutation, AllPairs-cons, AllPairs-filter, ap, Apart, arith, at_key, Bool, cond, Contains, Contains-get_or, dedup}
use Rattle.mb_lists.proofs.Common.{dedup_from, eq_by_cmp, eq_by_cmp_equiv, Equal, false, false≢true, filter, filter_agree, filter_passes, filter_within, find, find_same, firsts, get_or_from_slice_get}
use Rattle.mb_lists.proofs.Common.{Greater, is_eq, is_lt, IsAntisymmetric, IsPermutation, IsPermutation-reverse, IsSortedBy, IsStableBy, IsStrictlySortedBy, IsStrictlySortedBy-dedup, IsTotalOrder}
use Rattle.mb_lists.proofs.Common.{Less, List, newest, None, not, on_total, Option, Ordering, ordering_reverse, refl, reverse, reverse-append, slice_get_within, Some, StandsAs, subst, sym, ties, true}
use Rattle.mb_lists.proofs.Common.{[], ◌&&◌, ◌++◌, ◌∙◌, ◌∷◌, ◌≡◌}
use Rattle.std.proofs.lemmas.List.Filters.{All-dedup}
use Rattle.mb_lists.proofs.Finding.{find_none, found_in}
use Rattle.mb_lists.proofs.Sorting.{found_permuted}

not_true : (b : Bool) → not b ≡ true → b ≡ false
not_true false h = refl
not_true true h = absurd (false≢true h)

less_apart : (o : Ordering) → o ≡ Less → is_eq o ≡ false
less_apart o h = rw h refl

-- neither is less: the order doesn't tell them apart
tied : (o : Ordering) → (not (is_lt o) && not (is_lt (ordering_reverse o))) ≡ is_eq o
tied Less = refl
tied Equal = refl
tied Greater = refl

no_item : {X : Type 0} (p : X → Bool) (xs : List X) → find p xs ≡ None → All (λ x. p x ≡ false) xs
no_item p [] h = λ k d lt. absurd (omega arith)
no_item p (x ∷ xs) h = by (p x) refl (no_item p xs)
  where
    by : (b : Bool) → p x ≡ b → (find p xs ≡ None → All (λ x. p x ≡ false) xs) → All (λ x. p x ≡ false) (x ∷ xs)
    by true e rest = absurd (some (rw e at h))
      where
        some : Some x ≡ None → ⊥
        some e = cc
    by false e rest = All-cons (λ x. p x ≡ false) x xs e (rest (rw e at h))

module _ {K X : Type 0} {R : K → K → Ordering} (total : IsTotalOrder R) (key : X → K) where
  same_key : (q : K) (x y : X) → eq_by_cmp R (key x) (key y) ≡ true → at_key R key q x ≡ at_key R key q y
  same_key q x y h =
      let e = eq_by_cmp_equiv total in
      e.symm q (key x) ∙ (e.congr (key x) (key y) q h ∙ e.symm (key y) q)

  -- the first item of a key is the first of all
  pub find_firsts : (q : K) (xs : List X) → find (at_key R key q) (firsts R key xs) ≡ find (at_key R key q) xs
  find_firsts q [] = refl
  find_firsts q (x ∷ xs) = by (at_key R key q x) refl (find_firsts q xs)
    where
      other : (y : X) → at_key R key q x ≡ false → at_key R key q y ≡ true → (b : Bool) → eq_by_cmp R (key x) (key y) ≡ b → not (eq_by_cmp R (key x) (key y)) ≡ true
      other y f h true e = absurd (false≢true (sym f ∙ (same_key q x y e ∙ h)))
      other y f h false e = ap not e

      by : (b : Bool) → at_key R key q x ≡ b → find (at_key R key q) (firsts R key xs) ≡ find (at_key R key q) xs → cond (at_key R key q x) (Some x) (find (at_key R key q) (filter (λ y. not (eq_by_cmp R (key x) (key y))) (firsts R key xs))) ≡ cond (at_key R key q x) (Some x) (find (at_key R key q) xs)
      by true e ih = rw e refl
      by false e ih = ap (cond (at_key R key q x) (Some x)) (find_same (at_key R key q) _ (firsts R key xs) (filter_within (λ y. not (eq_by_cmp R (key x) (key y))) (at_key R key q) (λ y h. other y e h (eq_by_cmp R (key x) (key y)) refl) (firsts R key xs)) ∙ ih)

  pub firsts_apart : (xs : List X) → Apart R key (firsts R key xs)
  firsts_apart [] = record { pairs = λ i j d less lt. absurd (omega arith) }
  firsts_apart (x ∷ xs) = record {
    pairs = AllPairs-cons (λ x y. eq_by_cmp R (key x) (key y) ≡ false) x (filter (λ y. not (eq_by_cmp R (key x) (key y))) (firsts R key xs))
        (λ k d lt. not_true _ (filter_passes (λ y. not (eq_by_cmp R (key x) (key y))) (firsts R key xs) k d lt))
        (AllPairs-filter (λ x y. eq_by_cmp R (key x) (key y) ≡ false) (λ y. not (eq_by_cmp R (key x) (key y))) (firsts R key xs) (firsts_apart xs).pairs);
  }

  pub newest_apart : (xs : List X) → Apart R key (newest R key xs)
  newest_apart xs = firsts_apart (reverse xs)

  pub find_newest : (q : K) (xs : List X) → find (at_key R key q) (newest R key xs) ≡ find (at_key R key q) (reverse xs)
  find_newest q xs = find_firsts q (reverse xs)

  -- one more item is found under its key
  pub find_pushed : (q : K) (xs : List X) (x : X) → find (at_key R key q) (newest R key (xs ++ x ∷ [])) ≡ cond (eq_by_cmp R q (key x)) (Some x) (find (at_key R key q) (newest R key xs))
  find_pushed q xs x =
      find_newest q (xs ++ x ∷ []) ∙ (ap (find (at_key R key q)) (reverse-append xs (x ∷ [])) ∙ ap (cond (at_key R key q x) (Some x)) (sym (find_newest q xs)))

  -- neighbours of one key become one, the first of them
  find_from : (q : K) (k : X) (xs : List X) → find (at_key R key q) (dedup_from (λ x y. eq_by_cmp R (key x) (key y)) k xs) ≡ cond (at_key R key q k) (Some k) (find (at_key R key q) xs)
  find_from q k [] = refl
  find_from q k (x ∷ xs) = by (eq_by_cmp R (key x) (key k)) refl (find_from q k xs) (find_from q x xs)
    where
      skipped : (b : Bool) → at_key R key q k ≡ b → at_key R key q x ≡ b → cond b (Some k) (find (at_key R key q) xs) ≡ cond b (Some k) (cond (at_key R key q x) (Some x) (find (at_key R key q) xs))
      skipped true e f = refl
      skipped false e f = rw f refl

      by : (b : Bool) → eq_by_cmp R (key x) (key k) ≡ b
          → find (at_key R key q) (dedup_from (λ x y. eq_by_cmp R (key x) (key y)) k xs) ≡ cond (at_key R key q k) (Some k) (find (at_key R key q) xs)
          → find (at_key R key q) (dedup_from (λ x y. eq_by_cmp R (key x) (key y)) x xs) ≡ cond (at_key R key q x) (Some x) (find (at_key R key q) xs)
          → find (at_key R key q) (cond (eq_by_cmp R (key x) (key k)) (dedup_from (λ x y. eq_by_cmp R (key x) (key y)) k xs) (k ∷ dedup_from (λ x y. eq_by_cmp R (key x) (key y)) x xs)) ≡ cond (at_key R key q k) (Some k) (cond (at_key R key q x) (Some x) (find (at_key R key q) xs))
      by true e here there = rw e (here ∙ skipped (at_key R key q k) refl (same_key q x k e))
      by false e here there = rw e (ap (cond (at_key R key q k) (Some k)) there)

  pub find_dedup : (q : K) (xs : List X) → find (at_key R key q) (dedup (λ x y. eq_by_cmp R (key x) (key y)) xs) ≡ find (at_key R key q) xs
  find_dedup q [] = refl
  find_dedup q (x ∷ xs) = find_from q x xs

  apart_from_strict : (xs : List X) → IsStrictlySortedBy (λ x y. R (key x) (key y)) xs → Apart R key xs
  unfolding IsStrictlySortedBy
  apart_from_strict [] h = record { pairs = λ i j d less lt. absurd (omega arith) }
  apart_from_strict (x ∷ xs) h = record {
    pairs = AllPairs-cons (λ x y. eq_by_cmp R (key x) (key y) ≡ false) x xs (λ k d lt. less_apart _ (All-from_recursion (λ y. R (key x) (key y) ≡ Less) xs h.0 k d lt)) (apart_from_strict xs h.1).pairs;
  }

  pub dedup_apart : (xs : List X) → IsSortedBy (λ x y. is_lt (R (key x) (key y))) xs → Apart R key (dedup (λ x y. eq_by_cmp R (key x) (key y)) xs)
  dedup_apart xs up = apart_from_strict (dedup (λ x y. eq_by_cmp R (key x) (key y)) xs) (IsStrictlySortedBy-dedup {R = λ x y. R (key x) (key y)} (on_total key total) (λ x y. refl) xs up)

  tied_is : (x y : X) → ties (λ x y. is_lt (R (key x) (key y))) x y ≡ eq_by_cmp R (key x) (key y)
  tied_is x y = ap (λ o. not (is_lt (R (key x) (key y))) && not (is_lt o)) (total.antisymm (key y) (key x)) ∙ tied (R (key x) (key y))

  -- a stable sort leaves the first item of each key
  pub find_stable : (q : K) (xs ys : List X) → IsPermutation xs ys → IsStableBy (λ x y. is_lt (R (key x) (key y))) xs ys → find (at_key R key q) ys ≡ find (at_key R key q) xs
  find_stable q xs ys p stable = by (find (at_key R key q) xs) refl
    where
      test : (x : X) → at_key R key q x ≡ true → (y : X) → at_key R key q y ≡ ties (λ x y. is_lt (R (key x) (key y))) x y
      test x h y = (eq_by_cmp_equiv total).congr q (key x) (key y) h ∙ sym (tied_is x y)

      by : (o : Option X) → find (at_key R key q) xs ≡ o → find (at_key R key q) ys ≡ find (at_key R key q) xs
      by (Some x) e =
          let f = found_in (at_key R key q) xs x e in
          find_same (at_key R key q) ys xs (filter_agree (at_key R key q) (ties (λ x y. is_lt (R (key x) (key y))) x) (test x f.2) ys ∙ (stable x ∙ sym (filter_agree (at_key R key q) (ties (λ x y. is_lt (R (key x) (key y))) x) (test x f.2) xs)))
      by None e = none_found (All-permutation (λ x. at_key R key q x ≡ false) xs ys p (no_item (at_key R key q) xs e)) ∙ sym e
        where
          none_found : All (λ x. at_key R key q x ≡ false) ys → find (at_key R key q) ys ≡ None
          none_found all = find_none (at_key R key q) ys (λ k x at. ap (at_key R key q) (sym (get_or_from_slice_get ys k x x at)) ∙ all k x (slice_get_within ys k x at))

-- the latest of each key, in a list that is reversed, sorted stably, cleared of neighbours of one
-- key, and put in any order
module _ {K X : Type 0} {R : K → K → Ordering} (total : IsTotalOrder R) (anti : IsAntisymmetric R) (key : X → K) where
  pub newest_stands : (xs rs ys zs ws : List X) → rs ≡ reverse xs → IsPermutation rs ys → IsStableBy (λ x y. is_lt (R (key x) (key y))) rs ys → IsSortedBy (λ x y. is_lt (R (key x) (key y))) ys → zs ≡ dedup (λ x y. eq_by_cmp R (key x) (key y)) ys → IsPermutation zs ws → Apart R key ws → StandsAs R key (newest R key xs) ws
  newest_stands xs rs ys zs ws turned p stable up kept q apart = record {
    found = λ k.
        let sorted : Apart R key zs = subst (Apart R key) (sym kept) (dedup_apart total key ys up) in
        found_permuted total anti key k zs ws sorted apart q
        ∙ (ap (find (at_key R key k)) kept
        ∙ (find_dedup total key k ys
        ∙ (find_stable total key k rs ys p stable
        ∙ (ap (find (at_key R key k)) turned
        ∙ sym (find_newest total key k xs)))));
  }

  -- each of them is an item of the list
  pub newest_from : (xs rs ys zs ws : List X) → rs ≡ reverse xs → IsPermutation rs ys → zs ≡ dedup (λ x y. eq_by_cmp R (key x) (key y)) ys → IsPermutation zs ws → All (Contains xs) ws
  newest_from xs rs ys zs ws turned p kept q =
      let own : All (Contains xs) xs = λ k d lt. Contains-get_or xs k d lt in
      let back : All (Contains xs) rs = subst (All (Contains xs)) (sym turned) (All-permutation (Contains xs) xs (reverse xs) (IsPermutation-reverse xs) own) in
      All-permutation (Contains xs) zs ws q (subst (All (Contains xs)) (sym kept) (All-dedup (λ x y. eq_by_cmp R (key x) (key y)) (Contains xs) ys (All-permutation (Contains xs) rs ys p back)))
