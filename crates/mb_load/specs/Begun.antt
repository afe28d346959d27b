-- What a call that begins with loading answers.
use Rattle.std.specs.Prelude.{◌≡◌, Bool, true, Result}
use Rattle.mb_load.specs.Common.{Answers, MbtError, State, Tables, then}
use Rattle.mb_load.specs.StateOf.{state_of}

-- the refusal of loading tables, or what a function of their state answers
unfoldable pub begun : {A : Type 0} → (State → Result A MbtError) → Tables → Result A MbtError
begun f t = then (state_of t) f

-- the answer that is due of a store: of the tables that it tells, and of some that its answers could be of, where it
-- tells nothing. Only running out of memory and a fault of the store may come in its place
pub record IsBegun {A : Type 0} (f : State → Result A MbtError) (tells : Bool) (told : Tables) (answer : Result A MbtError) : Type 0 where
  pub tables : Tables
  pub is_told : tells ≡ true → tables ≡ told
  pub answers : Answers (begun f tables) answer
