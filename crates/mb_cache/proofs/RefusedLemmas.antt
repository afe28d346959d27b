-- Why a cache isn't made.
use Rattle.mb_cache.proofs.Common.{arith, Err, IfErr-at_err, IsErrOf, MbtError, refl, Result, StoreFault, ℕ, ◌-◌, ◌<◌, ◌^◌, ◌≡◌}
use Rattle.base_values.specs.Counts.{Rose}

-- why a fault comes, whatever would have been made
pub fault_again : (A B : Type 0) (e : MbtError) (before now : ℕ) → (IsErrOf {T = A} (Err e) StoreFault → Rose before now) → IsErrOf {T = B} (Err e) StoreFault → Rose before now
fault_again A B e before now why is = why (IfErr-at_err (λ x. IsErrOf {T = A} (Err e) x) is refl)

-- no fault comes where none was counted
pub no_fault : {A : Type 0} (before now : ℕ) (r : Result A MbtError) → (IsErrOf r StoreFault → Rose before now) → before < 2 ^ 64 - 1 → now ≡ before → r ≡ Err StoreFault → ⊥
no_fault before now r why below same fault = let rose : Rose before now = why fault in omega (arith, below, same, rose)
