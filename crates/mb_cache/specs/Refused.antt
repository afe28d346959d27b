-- What a cache that isn't made leaves of the store that it would have borrowed.
use Rattle.std.specs.Prelude.{◌≡◌, Bool, true, ℕ, Result, IsErrOf}
use Rattle.base_values.specs.Counts.{Rose}
use Rattle.mb_cache.specs.Opening.{LeftOrBegun}
use Rattle.mb_cache.specs.Common.{Keeps, MbtError, StoreFault, Tables}

-- The store holds what it held, where it tells that, or has its new tables without rows; and a fault comes only where
-- its count of faults rose.
pub record LeftByOpening {A S : Type 0} (shows : S → Bool) (holds : S → Tables) (failed : S → ℕ) (unfailing : S → Type 0) (old : S) (result : Result A MbtError) (new : S) : Type 0 where
  pub left : shows old ≡ true → LeftOrBegun (holds old) (holds new)
  pub kept : Keeps shows failed unfailing old new
  pub fault : IsErrOf result StoreFault → Rose (failed old) (failed new)
