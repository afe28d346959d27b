-- Numbers of answers that rise.
use Rattle.mb_sqlite.proofs.Common.{add-one, arith, column, drop, get_or, Int, is_above, length, List, Option, refl, RisesTo, Row, Some, subst, suc, sym, TableName, take, take_all, true, width, zero}
use Rattle.mb_sqlite.proofs.Common.{ℕ, ℤ, [], ◌++◌, ◌+◌, ◌<◌, ◌∙◌, ◌∷◌, ◌≡◌, ◌≤◌}

module _ (table : TableName) where
  next_rise : (from : Option ℤ) (xs : List Row) (n : ℕ) (last : Option ℤ) (m : ℤ) (d : Row) → n < length xs → RisesTo table from (take n xs) last → column (get_or xs n d) (width table) ≡ Int m → is_above last m ≡ true
      → RisesTo table from (take (suc n) xs) (Some m)
  next_rise from [] n last m d far rises is above = absurd (omega (arith, far))
  next_rise from (x ∷ xs) zero last m d far rises is above = (m, is, subst (λ f. is_above f m ≡ true) rises above, refl)
  next_rise from (x ∷ xs) (suc n) last m d far rises is above = (rises.0, rises.1, rises.2, next_rise (Some rises.0) xs n last m d (omega (arith, far)) rises.3 is above)

  -- one more of the first answers
  pub RisesTo-next : (from : Option ℤ) (xs : List Row) (n : ℕ) (last : Option ℤ) (m : ℤ) (d : Row) → n < length xs → RisesTo table from (take n xs) last → column (get_or xs n d) (width table) ≡ Int m → is_above last m ≡ true
      → RisesTo table from (take (n + 1) xs) (Some m)
  RisesTo-next from xs n last m d far rises is above = subst (λ k. RisesTo table from (take k xs) (Some m)) (sym (add-one n)) (next_rise from xs n last m d far rises is above)

  -- all of them, whatever the bound
  pub RisesTo-enough : (from : Option ℤ) (xs : List Row) (n m : ℕ) (last : Option ℤ) → length xs ≤ n → length xs ≤ m → RisesTo table from (take n xs) last → RisesTo table from (take m xs) last
  RisesTo-enough from xs n m last enough more rises = subst (λ ys. RisesTo table from ys last) (take_all n xs enough ∙ sym (take_all m xs more)) rises

  -- the one after them
  pub rises_beyond : (xs : List Row) (n : ℕ) (last : Option ℤ) (m : ℤ) (d : Row) → n < length xs → column (get_or xs n d) (width table) ≡ Int m → is_above last m ≡ true → RisesTo table last (take 1 (drop n xs)) (Some m)
  rises_beyond [] n last m d far is above = absurd (omega (arith, far))
  rises_beyond (x ∷ xs) zero last m d far is above = (m, is, above, refl)
  rises_beyond (x ∷ xs) (suc n) last m d far is above = rises_beyond xs n last m d (omega (arith, far)) is above

  pub rises_none : (xs : List Row) (n : ℕ) (last : Option ℤ) → length xs ≤ n → RisesTo table last (take 1 (drop n xs)) last
  rises_none [] zero last enough = refl
  rises_none [] (suc n) last enough = refl
  rises_none (x ∷ xs) zero last enough = absurd (omega (arith, enough))
  rises_none (x ∷ xs) (suc n) last enough = rises_none xs n last (omega (arith, enough))

  -- those of two pages in a row
  pub rises_on : (from mid last : Option ℤ) (xs ys : List Row) → RisesTo table from xs mid → RisesTo table mid ys last → RisesTo table from (xs ++ ys) last
  rises_on from mid last [] ys one two = subst (λ f. RisesTo table f ys last) one two
  rises_on from mid last (x ∷ xs) ys one two = (one.0, one.1, one.2, rises_on (Some one.0) mid last xs ys one.3 two)
