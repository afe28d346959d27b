-- Filters and tests of lists, where what they say is known of the lists' own elements alone.
use Rattle.mb_cache.proofs.Common.{All, All-cons, All-head, All-nil, All-tail, ap, arith, Bool, cond, false, false≢true, filter, find, get_or, length, List, list_any, option_to_list, refl, Some}
use Rattle.mb_cache.proofs.Common.{subst, suc, sym, true, zero, ℕ, [], ◌&&◌, ◌<◌, ◌||◌, ◌∙◌, ◌∷◌, ◌≡◌, ◌≤◌}

module _ {X : Type 0} where
  -- of what passes a test either all passes another one, or nothing does
  pub any_filter : (test p : X → Bool) (b : Bool) (xs : List X) → All (λ x. test x ≡ true → p x ≡ b) xs → list_any test (filter p xs) ≡ (b && list_any test xs)
  any_filter test p true [] all = refl
  any_filter test p false [] all = refl
  any_filter test p b (x ∷ xs) all = by (test x) refl (p x) refl b (All-head (λ x. test x ≡ true → p x ≡ b) x xs all) (any_filter test p b xs (All-tail (λ x. test x ≡ true → p x ≡ b) x xs all))
    where
      by : (t : Bool) → test x ≡ t → (q : Bool) → p x ≡ q → (b : Bool) → (test x ≡ true → p x ≡ b) → list_any test (filter p xs) ≡ (b && list_any test xs) → list_any test (cond (p x) (x ∷ filter p xs) (filter p xs)) ≡ (b && (test x || list_any test xs))
      by true e true f true h next = rw (f, e) refl
      by true e true f false h next = absurd (false≢true (sym (h e) ∙ f))
      by true e false f true h next = absurd (false≢true (sym f ∙ h e))
      by true e false f false h next = rw (f) next
      by false e true f b h next = rw (f, e) next
      by false e false f b h next = rw (f, e) next

  -- two tests that agree on a list
  pub filter_same : (p q : X → Bool) (xs : List X) → All (λ x. p x ≡ q x) xs → filter p xs ≡ filter q xs
  filter_same p q [] all = refl
  filter_same p q (x ∷ xs) all = rw (All-head (λ x. p x ≡ q x) x xs all, filter_same p q xs (All-tail (λ x. p x ≡ q x) x xs all)) refl

  pub any_same : (p q : X → Bool) (xs : List X) → All (λ x. p x ≡ q x) xs → list_any p xs ≡ list_any q xs
  any_same p q [] all = refl
  any_same p q (x ∷ xs) all = rw (All-head (λ x. p x ≡ q x) x xs all, any_same p q xs (All-tail (λ x. p x ≡ q x) x xs all)) refl

  -- where nothing passes, each fails
  pub none_left : (p : X → Bool) (xs : List X) → filter p xs ≡ [] → All (λ x. p x ≡ false) xs
  none_left p [] none = All-nil (λ x. p x ≡ false)
  none_left p (x ∷ xs) none = by (p x) refl none (none_left p xs)
    where
      no_cons : (y : X) (ys : List X) → y ∷ ys ≡ [] → ⊥
      no_cons y ys h = cc

      by : (b : Bool) → p x ≡ b → cond (p x) (x ∷ filter p xs) (filter p xs) ≡ [] → (filter p xs ≡ [] → All (λ x. p x ≡ false) xs) → All (λ x. p x ≡ false) (x ∷ xs)
      by true e none next = absurd (no_cons x (filter p xs) (sym (ap (λ b. cond b (x ∷ filter p xs) (filter p xs)) e) ∙ none))
      by false e none next = All-cons (λ x. p x ≡ false) x xs e (next (sym (ap (λ b. cond b (x ∷ filter p xs) (filter p xs)) e) ∙ none))

  -- where at most one passes, it is the one that is found first
  pub found_alone : (p : X → Bool) (xs : List X) → length (filter p xs) ≤ 1 → filter p xs ≡ option_to_list (find p xs)
  found_alone p [] h = refl
  found_alone p (x ∷ xs) h = by (p x) refl h (found_alone p xs)
    where
      empty : (ys : List X) → length (x ∷ ys) ≤ 1 → ys ≡ []
      empty [] h = refl
      empty (y ∷ ys) h = absurd (omega arith)

      by : (b : Bool) → p x ≡ b → length (cond (p x) (x ∷ filter p xs) (filter p xs)) ≤ 1 → (length (filter p xs) ≤ 1 → filter p xs ≡ option_to_list (find p xs)) → cond (p x) (x ∷ filter p xs) (filter p xs) ≡ option_to_list (cond (p x) (Some x) (find p xs))
      by true e h next = rw (e) (ap (λ ys. x ∷ ys) (empty (filter p xs) (subst (λ b. length (cond b (x ∷ filter p xs) (filter p xs)) ≤ 1) e h)))
      by false e h next = rw (e) (next (subst (λ b. length (cond b (x ∷ filter p xs) (filter p xs)) ≤ 1) e h))

  -- an element that passes, where at most one does
  pub alone_is : (p : X → Bool) (xs : List X) (k : ℕ) (d : X) → k < length xs → p (get_or xs k d) ≡ true → length (filter p xs) ≤ 1 → filter p xs ≡ get_or xs k d ∷ []
  alone_is p [] k d far h one = absurd (omega arith)
  alone_is p (x ∷ xs) zero d far h one =
      let kept : filter p (x ∷ xs) ≡ x ∷ filter p xs = ap (λ b. cond b (x ∷ filter p xs) (filter p xs)) h in
      kept ∙ ap (λ ys. x ∷ ys) (empty (filter p xs) (subst (λ ys. length ys ≤ 1) kept one))
    where
      empty : (ys : List X) → length (x ∷ ys) ≤ 1 → ys ≡ []
      empty [] h = refl
      empty (y ∷ ys) h = absurd (omega arith)
  alone_is p (x ∷ xs) (suc k) d far h one = by (p x) refl (alone_is p xs k d (omega arith) h)
    where
      by : (b : Bool) → p x ≡ b → (length (filter p xs) ≤ 1 → filter p xs ≡ get_or xs k d ∷ []) → cond (p x) (x ∷ filter p xs) (filter p xs) ≡ get_or xs k d ∷ []
      by false e later = let kept : filter p (x ∷ xs) ≡ filter p xs = ap (λ b. cond b (x ∷ filter p xs) (filter p xs)) e in kept ∙ later (subst (λ ys. length ys ≤ 1) kept one)
      by true e later =
          let kept : filter p (x ∷ xs) ≡ x ∷ filter p xs = ap (λ b. cond b (x ∷ filter p xs) (filter p xs)) e in
          let short : length (x ∷ filter p xs) ≤ 1 = subst (λ ys. length ys ≤ 1) kept one in
          let whole : filter p xs ≡ get_or xs k d ∷ [] = later (omega (arith, short)) in
          absurd (too_long (filter p xs) (get_or xs k d) short whole)
        where
          too_long : (ys : List X) (y : X) → length (x ∷ ys) ≤ 1 → ys ≡ y ∷ [] → ⊥
          too_long [] y h e = cc
          too_long (z ∷ zs) y h e = omega arith
