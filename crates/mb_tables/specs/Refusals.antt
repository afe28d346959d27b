-- Refusals of loading: one for each test, and the first of them.
use Rattle.std.specs.Prelude.{◌≡◌, ◌≢◌, Bool, true, false, cond, List, [], ◌∷◌, Option, Some, None, Result, Ok, Err, map}
use Rattle.mb_tables.specs.Common.{option_or}
use Rattle.mb_tables.specs.declared.error.MbtError.{MbtError}
use Rattle.mb_tables.specs.declared.error.MbtError.TheVariants.{StoreFault, OutOfMemory}

-- no refusal where a test holds, and this one where it doesn't
abbrev pub unless : Bool → MbtError → Option MbtError
unless holds refusal = cond holds None (Some refusal)

-- the first refusal, if there is one
abbrev pub first_refusal : List (Option MbtError) → Option MbtError
first_refusal [] = None
first_refusal (r ∷ rs) = option_or r (first_refusal rs)

-- the refusal of the first that a test refuses
abbrev pub first_refused : {A : Type 0} → (A → Option MbtError) → List A → Option MbtError
first_refused test xs = first_refusal (map test xs)

-- running out of memory, or a store that failed: no refusal of the set
abbrev pub is_free : MbtError → Bool
is_free StoreFault = true
is_free OutOfMemory = true
is_free _ = false

-- a test over rows that are held answers the refusal that is due, or finds no memory
abbrev pub Tests : {A : Type 0} → Option MbtError → Result A MbtError → Type 0
Tests due (Ok x) = due ≡ None
Tests due (Err e) = (is_free e ≡ false → due ≡ Some e) × (e ≢ StoreFault)

-- an answer is the one that is due, unless memory ran out or the store failed
abbrev pub Answers : {A : Type 0} → Result A MbtError → Result A MbtError → Type 0
Answers due (Ok x) = due ≡ Ok x
Answers due (Err e) = is_free e ≡ false → due ≡ Err e

-- what the first gives to the next, or its refusal
abbrev pub then : {A B : Type 0} → Result A MbtError → (A → Result B MbtError) → Result B MbtError
then (Ok x) next = next x
then (Err e) next = Err e
