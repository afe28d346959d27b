-- Why a stream isn't made, whatever would have been made.
use Rattle.mb_access.proofs.Common.{ap, arith, Err, IsErrOf, MbtError, min, Ok, refl, Result, Rose, StoreFault, subst, sym, ℕ, ◌+◌, ◌-◌, ◌<◌, ◌^◌, ◌≡◌, ◌≤◌}
use Rattle.std.proofs.Math.Nat.{min-eq_left}

module _ (A B : Type 0) where
  abbrev Is : MbtError → Result B MbtError → Type 0
  Is d (Ok x) = ⊥
  Is d (Err e) = e ≡ d

  same_error : (e d : MbtError) → IsErrOf {T = B} (Err e) d → e ≡ d
  same_error e d same = subst (Is d) (sym same) refl

  -- a fault where another thing would have been made
  pub fault_again : {P : Type 0} (e : MbtError) → (IsErrOf {T = A} (Err e) StoreFault → P) → IsErrOf {T = B} (Err e) StoreFault → P
  fault_again e told same = told (ap (λ (d : MbtError). Err d) (same_error e StoreFault same))

  pub is_ok : (x : B) (e : MbtError) → IsErrOf {T = B} (Ok x) e → ⊥
  is_ok x e same = subst (Is e) (sym same) refl

  -- no fault comes where none was counted
  pub no_fault : (before now : ℕ) (e : MbtError) → (IsErrOf {T = A} (Err e) StoreFault → Rose before now) → before < 2 ^ 64 - 1 → now ≡ before → IsErrOf {T = B} (Err e) StoreFault → ⊥
  no_fault before now e told below same fault =
      let one : min (before + 1) (2 ^ 64 - 1) ≡ before + 1 = min-eq_left (omega (arith, below)) in
      let more : before + 1 ≤ now = subst (λ (n : ℕ). n ≤ now) one (fault_again e told fault) in
      absurd (omega (arith, more, same))
