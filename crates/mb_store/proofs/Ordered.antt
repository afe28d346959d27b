-- Lists in a total order: where an element goes, and whether it has an equal.
use Rattle.mb_store.proofs.Common.{All, AllPairs, ap, arith, Bool, cases_eq, cases_lt, Equal, fails_before_first, false, false≢true, get_or, Greater, inl, inr, insert, is_gt, IsTotalOrder, length}
use Rattle.mb_store.proofs.Common.{Less, List, list_any, Ordering, ordering_reverse, passes_at_first, position_or_len, prefix_len-le-length, refl, subst, sym, tied_itself, true, upto, ℕ, [], ◌&&◌}
use Rattle.mb_store.proofs.Common.{◌+◌, ◌-◌, ◌<◌, ◌||◌, ◌∙◌, ◌∷◌, ◌≡◌, ◌≤◌}
use Rattle.std.proofs.lemmas.List.Edits.{length-insert, get_or-insert_below, get_or-insert_at, get_or-insert_above}

related : {X : Type 0} (R : X → X → Type 0) (a b p q : X) → a ≡ p → b ≡ q → R p q → R a b
related R a b p q e f h = subst (λ z. R z b) (sym e) (subst (λ z. R p z) (sym f) h)

module _ {X : Type 0} (xs : List X) (i : ℕ) (x : X) (within : i ≤ length xs) where
  at_place : (k : ℕ) (d : X) → k ≡ i → get_or (insert xs i x) k d ≡ x
  at_place k d e = ap (λ n. get_or (insert xs i x) n d) e ∙ get_or-insert_at xs i x d within

  past_place : (k : ℕ) (d : X) → i < k → get_or (insert xs i x) k d ≡ get_or xs (k - 1) d
  past_place k d lt =
      let next : k ≡ (k - 1) + 1 = omega arith in
      ap (λ n. get_or (insert xs i x) n d) next ∙ get_or-insert_above xs i x d (k - 1) (omega arith) within

  -- what holds of all pairs still does with an element put in, where it holds of the element and
  -- those before and after it
  pub AllPairs-insert : (R : X → X → Type 0) → AllPairs R xs → ((k : ℕ) (d : X) → k < i → R (get_or xs k d) x) → ((k : ℕ) (d : X) → i ≤ k → k < length xs → R x (get_or xs k d)) → AllPairs R (insert xs i x)
  AllPairs-insert R pairs before after j k d less far =
      elim (cases_lt k i) [
        | inl k<i ↦ related R _ _ _ _ (get_or-insert_below xs i x d j (omega arith) within) (get_or-insert_below xs i x d k k<i within) (pairs j k d less (omega (arith, within)))
        | inr i≤k ↦ elim (cases_eq k i) [
          | inl same ↦ related R _ _ _ _ (get_or-insert_below xs i x d j (omega arith) within) (at_place k d same) (before j d (omega arith))
          | inr other ↦ elim (cases_lt j i) [
            | inl j<i ↦ related R _ _ _ _ (get_or-insert_below xs i x d j j<i within) (past_place k d (omega arith)) (pairs j (k - 1) d (omega arith) (omega (arith, length-insert xs i x within)))
            | inr i≤j ↦ elim (cases_eq j i) [
              | inl same ↦ related R _ _ _ _ (at_place j d same) (past_place k d (omega arith)) (after (k - 1) d (omega arith) (omega (arith, length-insert xs i x within)))
              | inr more ↦ related R _ _ _ _ (past_place j d (omega arith)) (past_place k d (omega arith)) (pairs (j - 1) (k - 1) d (omega arith) (omega (arith, length-insert xs i x within)))
            ]
          ]
        ]
      ]

  -- what holds of all elements and of one more
  pub All-insert : (P : X → Type 0) → All P xs → P x → All P (insert xs i x)
  All-insert P all one k d far =
      elim (cases_lt k i) [
        | inl k<i ↦ subst P (sym (get_or-insert_below xs i x d k k<i within)) (all k d (omega (arith, within)))
        | inr i≤k ↦ elim (cases_eq k i) [
          | inl same ↦ subst P (sym (at_place k d same)) one
          | inr other ↦ subst P (sym (past_place k d (omega arith))) (all (k - 1) d (omega (arith, length-insert xs i x within)))
        ]
      ]

module _ {X : Type 0} {R : X → X → Ordering} (o : IsTotalOrder R) where
  turned : (r : Ordering) → is_gt r ≡ true → is_gt (ordering_reverse r) ≡ false
  turned Less h = absurd (false≢true h)
  turned Equal h = refl
  turned Greater h = refl

  below_greater : (x y : X) → is_gt (R y x) ≡ true → is_gt (R x y) ≡ false
  below_greater x y h = ap is_gt (o.antisymm x y) ∙ turned (R y x) h

  module _ (xs : List X) (up : AllPairs (λ a b. is_gt (R a b) ≡ false) xs) (x : X) where
    -- an element isn't above itself or a later one
    up_to : (i j : ℕ) (d : X) → i ≤ j → j < length xs → is_gt (R (get_or xs i d) (get_or xs j d)) ≡ false
    up_to i j d le far = elim (cases_eq i j) [
      | inl same ↦ subst (λ k. is_gt (R (get_or xs i d) (get_or xs k d)) ≡ false) same (ap is_gt (tied_itself o (get_or xs i d)))
      | inr other ↦ up i j d (omega arith) far
    ]

    pub place_within : position_or_len (λ y. is_gt (R y x)) xs ≤ length xs
    place_within = prefix_len-le-length _ xs

    pub not_above : (k : ℕ) (d : X) → k < position_or_len (λ y. is_gt (R y x)) xs → is_gt (R (get_or xs k d) x) ≡ false
    not_above k d lt = fails_before_first (λ y. is_gt (R y x)) xs k d lt

    pub is_above : (k : ℕ) (d : X) → position_or_len (λ y. is_gt (R y x)) xs ≤ k → k < length xs → is_gt (R (get_or xs k d) x) ≡ true
    is_above k d from far =
        let i = position_or_len (λ y. is_gt (R y x)) xs in
        let first : is_gt (R (get_or xs i d) x) ≡ true = passes_at_first (λ y. is_gt (R y x)) xs d (omega arith) in
        elim (is_gt (R (get_or xs k d) x)) as (λ b. is_gt (R (get_or xs k d) x) ≡ b → b ≡ true) [
          | true ↦ λ e. refl
          | false ↦ λ e. absurd (false≢true (sym (upto o (get_or xs i d) (get_or xs k d) x (up_to i k d from far) e) ∙ first))
        ] refl

    -- with x at its place the list is in order
    pub up-insert : AllPairs (λ a b. is_gt (R a b) ≡ false) (insert xs (position_or_len (λ y. is_gt (R y x)) xs) x)
    up-insert = AllPairs-insert xs _ x place_within (λ a b. is_gt (R a b) ≡ false) up (λ k d lt. not_above k d lt) (λ k d from far. below_greater x (get_or xs k d) (is_above k d from far))

-- a test that doesn't look at the element
pub list_any-and : {X : Type 0} (p : X → Bool) (b : Bool) (xs : List X) → list_any (λ x. p x && b) xs ≡ (list_any p xs && b)
list_any-and p b [] = refl
list_any-and p b (x ∷ xs) = ap (λ r. (p x && b) || r) (list_any-and p b xs) ∙ shared (p x) (list_any p xs) b
  where
    shared : (u v b : Bool) → ((u && b) || (v && b)) ≡ ((u || v) && b)
    shared true v true = refl
    shared true true false = refl
    shared true false false = refl
    shared false v b = refl
