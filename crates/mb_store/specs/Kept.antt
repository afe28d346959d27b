-- What calls keep of a store.
use Rattle.std.specs.Prelude.{◌≡◌, ℕ, ◌≤◌, Bool, IsErrOf, OnOk, Result}
use Rattle.base_values.specs.Counts.{Rose}

-- of any call: whether it tells stays; its count of faults doesn't fall, and stands where its calls
-- don't fail, which stays so
pub record Keeps {S : Type 0} (shows : S → Bool) (failed : S → ℕ) (unfailing : S → Type 0) (before now : S) : Type 0 where
  pub tells : shows now ≡ shows before
  pub faults : failed before ≤ failed now
  pub steady : unfailing before → unfailing now
  pub calm : unfailing before → failed now ≡ failed before

-- of a call that only reads: what it tells stays too
pub record ReadsOnly {S T : Type 0} (holds : S → T) (shows : S → Bool) (failed : S → ℕ) (unfailing : S → Type 0) (before now : S) : Type 0 where
  pub told : holds now ≡ holds before
  pub tells : shows now ≡ shows before
  pub faults : failed before ≤ failed now
  pub steady : unfailing before → unfailing now
  pub calm : unfailing before → failed now ≡ failed before

-- a fault is answered only where the count of faults rose, and at Ok the count stands
pub record FaultsCounted {S A E : Type 0} (failed : S → ℕ) (before now : S) (result : Result A E) (fault : E) : Type 0 where
  pub rose : IsErrOf result fault → Rose (failed before) (failed now)
  pub still : OnOk result (failed now ≡ failed before)
