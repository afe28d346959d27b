-- Past the end of an answer there is no text; and which answer is the first that passes a test.
use Rattle.mb_reading.proofs.Common.{ap, arith, Bool, column, false, get_or, length, List, list_any, refl, Row, subst, suc, sym, take, true, zero, ℕ, [], ◌+◌, ◌<◌, ◌||◌, ◌∙◌, ◌∷◌, ◌≡◌, ◌≤◌}
use Rattle.std.proofs.lemmas.List.Folds.{list_any_more}
use Rattle.sqlite_value.specs.declared.value.Value.TheVariants.{Null}

pub past_end : (r : Row) (at : ℕ) → length r ≤ at → column r at ≡ Null
past_end [] at past = refl
past_end (v ∷ vs) zero past = absurd (omega (arith, past))
past_end (v ∷ vs) (suc n) past = past_end vs n (omega (arith, past))

module _ {A : Type 0} (p : A → Bool) where
  pub none_more : (xs : List A) (i : ℕ) (x : A) → i < length xs → x ≡ get_or xs i x → p x ≡ false → list_any p (take i xs) ≡ false → list_any p (take (i + 1) xs) ≡ false
  none_more xs i x l is fails before = list_any_more p xs i x l ∙ ap (λ b. b || p (get_or xs i x)) before ∙ subst (λ y. p y ≡ false) is fails

  or_true : (b : Bool) → (b || true) ≡ true
  or_true true = refl
  or_true false = refl

  pub one_passes : (xs : List A) (i : ℕ) (x : A) → i < length xs → x ≡ get_or xs i x → p x ≡ true → list_any p xs ≡ true
  one_passes [] i x l is passes = absurd (omega (arith, l))
  one_passes (y ∷ ys) zero x l is passes = ap (λ b. b || list_any p ys) (subst (λ z. p z ≡ true) is passes)
  one_passes (y ∷ ys) (suc i) x l is passes = ap (λ b. p y || b) (one_passes ys i x (omega (arith, l)) is passes) ∙ or_true (p y)

  pub none_passes : (xs : List A) (n : ℕ) → length xs ≤ n → list_any p (take n xs) ≡ false → list_any p xs ≡ false
  none_passes [] n l before = refl
  none_passes (y ∷ ys) zero l before = absurd (omega (arith, l))
  none_passes (y ∷ ys) (suc n) l before = neither (p y) (list_any p (take n ys)) (list_any p ys) before (λ fails. none_passes ys n (omega (arith, l)) fails)
    where
      neither : (a b c : Bool) → (a || b) ≡ false → (b ≡ false → c ≡ false) → (a || c) ≡ false
      neither true b c e f = e
      neither false b c e f = f e
