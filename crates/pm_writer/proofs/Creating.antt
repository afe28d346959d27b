-- Why a writer isn't made, whatever would have been made.
use Rattle.pm_writer.proofs.Common.{arith, Compression, CreateCauses, CreateRefusals, Err, min, min-eq_left, Ok, PmtError, Result, subst, sym, ℕ, ◌+◌, ◌-◌, ◌<◌, ◌^◌, ◌≡◌, ◌≤◌}
use Rattle.base_values.specs.Counts.{Rose}
use Rattle.pm_format.specs.declared.error.PmtError.TheVariants as errors
use Rattle.pm_format.specs.declared.error.ReadCause.TheVariants as causes

module _ (A B : Type 0) (label : Compression) (before now : ℕ) where
  pub causes_again : (e : PmtError) → CreateCauses {A = A} label before now (Err e) → CreateCauses {A = B} label before now (Err e)
  causes_again (errors.UnsupportedCompression refused) h = h
  causes_again (errors.Reading causes.Fault) h = h
  causes_again errors.OutOfMemory h = h
  causes_again (_) h = absurd h

  pub refusals_again : (e : PmtError) → CreateCauses {A = A} label before now (Err e) → CreateRefusals {A = B} label (Err e)
  refusals_again (errors.UnsupportedCompression refused) h = h
  refusals_again (errors.Reading causes.Fault) h = h.0
  refusals_again errors.OutOfMemory h = h
  refusals_again (_) h = absurd h

  abbrev Good : Result B PmtError → Type 0
  Good (Ok x) = Unit {0}
  Good (Err e) = ⊥

  pub is_ok : (r : Result B PmtError) (x : B) (e : PmtError) → r ≡ Ok x → r ≡ Err e → ⊥
  is_ok r x e ok err = subst Good err (subst Good (sym ok) tt)

  -- no fault comes where none was counted
  pub no_fault : (r : Result B PmtError) (e : PmtError) → CreateCauses {A = A} label before now (Err e) → before < 2 ^ 64 - 1 → now ≡ before → r ≡ Err e → r ≡ Err (errors.Reading causes.Fault) → ⊥
  no_fault r e h below same err fault =
      let P : Result B PmtError → Type 0 = λ t. CreateCauses {A = B} label before now t in
      let rose : Rose before now = (subst P fault (subst P (sym err) (causes_again e h))).1 in
      let one : min (before + 1) (2 ^ 64 - 1) ≡ before + 1 = min-eq_left (omega (arith, below)) in
      let more : before + 1 ≤ now = subst (λ (n : ℕ). n ≤ now) one rose in
      absurd (omega (arith, more, same))
