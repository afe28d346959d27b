-- What is found in a list passes the test.
use Rattle.std.proofs.Common.{Bool, cond, false, IfSome, List, refl, Some, true, [], ◌∷◌, ◌≡◌}
use Rattle.std.specs.Prelude.{find}

pub found_has : {X : Type 0} (p : X → Bool) (xs : List X) → IfSome (find p xs) (λ x. p x ≡ true)
found_has p [] = tt
found_has p (x ∷ xs) = by (p x) refl (found_has p xs)
  where
    by : (b : Bool) → p x ≡ b → IfSome (find p xs) (λ y. p y ≡ true) → IfSome (cond b (Some x) (find p xs)) (λ y. p y ≡ true)
    by true e rest = e
    by false e rest = rest
