-- What a call that is refused says of the store, and what a stream that isn't made leaves of the store
-- that it would have borrowed.
use Rattle.std.specs.Prelude.{◌≢◌, ◌<◌, ◌-◌, ◌^◌, ℕ, Bool, Err, Result}
use Rattle.mb_access.specs.Common.{FaultsCounted, MbtError, ReadsOnly, StoreFault, Tables}

-- no fault comes where calls don't fail, and the count of faults isn't at its end
abbrev pub IsUnfailing : {A : Type 0} → Type 0 → ℕ → Result A MbtError → Type 0
IsUnfailing steady failed result = steady → failed < 2 ^ 64 - 1 → result ≢ Err StoreFault

-- The store holds and tells what it did, and a fault comes only where its count of faults rose.
pub record LeftByStart {A S : Type 0} (holds : S → Tables) (shows : S → Bool) (failed : S → ℕ)
    (unfailing : S → Type 0) (old : S) (result : Result A MbtError) (new : S) : Type 0 where
  pub kept : ReadsOnly holds shows failed unfailing old new
  pub fault : FaultsCounted failed old new result StoreFault
