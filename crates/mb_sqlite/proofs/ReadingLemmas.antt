-- Cells and rows that are read one after another.
use Rattle.mb_sqlite.proofs.Common.{add-one, AllZip, arith, get_or, length, List, subst, suc, sym, take, take_all, zero, ℕ, [], ◌++◌, ◌+◌, ◌<◌, ◌∙◌, ◌∷◌, ◌≤◌}

module _ {A B : Type 0} (R : A → B → Type 0) where
  next_pair : (xs : List A) (ys : List B) (n : ℕ) (y : B) (d : A) → n < length xs → AllZip R (take n xs) ys → R (get_or xs n d) y → AllZip R (take (suc n) xs) (ys ++ y ∷ [])
  next_pair [] ys n y d far all one = absurd (omega (arith, far))
  next_pair (x ∷ xs) [] zero y d far all one = (one, tt)
  next_pair (x ∷ xs) (z ∷ zs) zero y d far all one = absurd all
  next_pair (x ∷ xs) [] (suc n) y d far all one = absurd all
  next_pair (x ∷ xs) (z ∷ zs) (suc n) y d far all one = (all.0, next_pair xs zs n y d (omega (arith, far)) all.1 one)

  -- one more of the first elements of a list
  pub AllZip-next : (xs : List A) (ys : List B) (n : ℕ) (y : B) (d : A) → n < length xs → AllZip R (take n xs) ys → R (get_or xs n d) y → AllZip R (take (n + 1) xs) (ys ++ y ∷ [])
  AllZip-next xs ys n y d far all one = subst (λ m. AllZip R (take m xs) (ys ++ y ∷ [])) (sym (add-one n)) (next_pair xs ys n y d far all one)

  -- all of them, whatever the bound
  pub AllZip-enough : (xs : List A) (ys : List B) (n m : ℕ) → length xs ≤ n → length xs ≤ m → AllZip R (take n xs) ys → AllZip R (take m xs) ys
  AllZip-enough xs ys n m enough more all = subst (λ zs. AllZip R zs ys) (take_all n xs enough ∙ sym (take_all m xs more)) all
