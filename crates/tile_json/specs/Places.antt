-- The place of a name among names that rise.
use Rattle.std.specs.Prelude.{ℕ, suc, zero, ◌≡◌, ◌<◌, List, [], ◌∷◌, length}
use Rattle.std.specs.declared.cmp.Ordering.{Ordering}
use Rattle.std.specs.declared.cmp.Ordering.TheVariants.{Less, Equal, Greater}

module _ {K V : Type 0} (compare : K → Ordering) where
  -- what is compared is above each key before the place, and compares so with the key at it, if there is one
  abbrev pub StandsAt : List (K × V) → ℕ → Ordering → Type 0
  StandsAt [] zero answer = Unit {0}
  StandsAt [] (suc place) answer = ⊥
  StandsAt (entry ∷ entries) zero answer = compare entry.0 ≡ answer
  StandsAt (entry ∷ entries) (suc place) answer = (compare entry.0 ≡ Greater) × StandsAt entries place answer

  -- the place is that of the key
  abbrev pub IsAt : List (K × V) → ℕ → Type 0
  IsAt entries place = (place < length entries) × StandsAt entries place Equal

  -- the key would go to the place
  abbrev pub IsGap : List (K × V) → ℕ → Type 0
  IsGap entries place = StandsAt entries place Less
