-- Finding in lists.
use Rattle.mb_lists.proofs.Common.{ap, arith, Bool, cond, false, find, get_or, length, List, None, refl, slice_get, Some, suc, sym, true, zero, ℕ, [], ◌<◌, ◌∙◌, ◌∷◌, ◌≡◌}

pub find_none : {X : Type 0} (p : X → Bool) (xs : List X) → ((k : ℕ) (x : X) → slice_get xs k ≡ Some x → p x ≡ false) → find p xs ≡ None
find_none p [] h = refl
find_none p (x ∷ xs) h = rw (h 0 x refl, find_none p xs (λ k y at. h (suc k) y at)) refl

pub find_first : {X : Type 0} (p : X → Bool) (xs : List X) (i : ℕ) (d : X) → i < length xs → ((k : ℕ) → k < i → p (get_or xs k d) ≡ false) → p (get_or xs i d) ≡ true → find p xs ≡ Some (get_or xs i d)
find_first p [] i d lt h k = absurd (omega arith)
find_first p (x ∷ xs) zero d lt h k = rw k refl
find_first p (x ∷ xs) (suc i) d lt h k = rw (h 0 (omega arith)) (find_first p xs i d (omega arith) (λ j less. h (suc j) (omega arith)) k)

pub found_in : {X : Type 0} (p : X → Bool) (xs : List X) (x : X) → find p xs ≡ Some x → (i : ℕ) × (slice_get xs i ≡ Some x) × (p x ≡ true)
found_in p [] x h = cc
found_in p (z ∷ xs) x h = by (p z) refl h (found_in p xs x)
  where
    by : (b : Bool) → p z ≡ b → cond b (Some z) (find p xs) ≡ Some x → (find p xs ≡ Some x → (i : ℕ) × (slice_get xs i ≡ Some x) × (p x ≡ true)) → (i : ℕ) × (slice_get (z ∷ xs) i ≡ Some x) × (p x ≡ true)
    by true e h rest = let same : z ≡ x = cc in (0, h, ap p (sym same) ∙ e)
    by false e h rest = let r = rest h in (suc r.0, r.1, r.2)
