-- Steps one after another.
use Rattle.mb_sqlite.proofs.Common.{add-one, length, List, refl, slice_get, Some, Steps, subst, suc, sym, take, take_all, zero, ℕ, [], ◌++◌, ◌+◌, ◌∷◌, ◌≡◌, ◌≤◌}

module _ {A B : Type 0} (Step : A → B → B → Type 0) where
  pub Steps-none : (a : B) → Steps Step [] a a
  unfolding Steps
  Steps-none a = refl

  next_step : (xs : List A) (n : ℕ) (x : A) (a b c : B) → slice_get xs n ≡ Some x → Steps Step (take n xs) a b → Step x b c → Steps Step (take (suc n) xs) a c
  unfolding Steps
  next_step [] n x a b c at steps step = absurd (let e = at in cc)
  next_step (y ∷ ys) zero x a b c at steps step =
      let same : y ≡ x = cc in
      (c, subst (λ h. Step y h c) steps (subst (λ z. Step z b c) (sym same) step), refl)
  next_step (y ∷ ys) (suc n) x a b c at steps step = (steps.0, steps.1, next_step ys n x steps.0 b c at steps.2 step)

  -- one more step
  pub Steps-next : (xs : List A) (n : ℕ) (x : A) (a b c : B) → slice_get xs n ≡ Some x → Steps Step (take n xs) a b → Step x b c → Steps Step (take (n + 1) xs) a c
  Steps-next xs n x a b c at steps step = subst (λ m. Steps Step (take m xs) a c) (sym (add-one n)) (next_step xs n x a b c at steps step)

  -- all of them
  pub Steps-all : (xs : List A) (n : ℕ) (a b : B) → length xs ≤ n → Steps Step (take n xs) a b → Steps Step xs a b
  Steps-all xs n a b enough steps = subst (λ ys. Steps Step ys a b) (take_all n xs enough) steps

  pub Steps-push : (xs : List A) (x : A) (a b c : B) → Steps Step xs a b → Step x b c → Steps Step (xs ++ x ∷ []) a c
  unfolding Steps
  Steps-push [] x a b c steps step = (c, subst (λ h. Step x h c) steps step, refl)
  Steps-push (y ∷ ys) x a b c steps step = (steps.0, steps.1, Steps-push ys x steps.0 b c steps.2 step)
