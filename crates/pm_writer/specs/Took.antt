-- What data is taken for, as a writer compares it with what its medium answers: a medium that tells nothing may answer
-- other bytes than were written.
use Rattle.std.specs.Prelude.{◌≡◌, ◌≢◌, ℕ, List, [], ◌∷◌, length, All, Option, Some, None}
use Rattle.pm_writer.specs.Common.{IsBytes, xxh3_64}
use Rattle.pm_contents.specs.Span.{Stood}

-- the data itself where the medium tells its bytes, and else data of its length and digest, or a mark of its length
-- that no data is equal to
abbrev pub Took : Option (List ℕ) → List ℕ → List ℕ → Type 0
Took (Some bytes) given taken = taken ≡ given
Took None given taken = (length taken ≡ length given) × (IsBytes taken → xxh3_64 taken ≡ xxh3_64 given)

-- the same of one add, by the medium's count of reads before and now: the data itself where nothing was read
abbrev pub TookBy : Option (List ℕ) → ℕ → ℕ → List ℕ → List ℕ → Type 0
TookBy told before now given taken = Took told given taken × (Stood before now → taken ≡ given)

-- the same of adds, one after another: their ids, and what their data is taken for
abbrev pub TookAll : Option (List ℕ) → List (ℕ × List ℕ) → List (ℕ × List ℕ) → Type 0
TookAll told [] [] = Unit {0}
TookAll told [] (t ∷ ts) = ⊥
TookAll told (g ∷ gs) [] = ⊥
TookAll told (g ∷ gs) (t ∷ ts) = (t.0 ≡ g.0) × Took told g.1 t.1 × TookAll told gs ts

-- none of the contents has the digest and the length of these bytes
abbrev pub AreUnlike : List (List ℕ) → List ℕ → Type 0
AreUnlike cs x = All (λ z. xxh3_64 z ≡ xxh3_64 x → length z ≢ length x) cs
