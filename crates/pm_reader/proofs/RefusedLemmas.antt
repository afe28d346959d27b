-- Why a reader isn't made, whatever would have been made, and what is tied where it is.
use Rattle.pm_reader.proofs.Common.{arith, Err, Held, IfSome, IsOpen, IsOpenFailure, List, min, None, Ok, OpenCauses, Option, PmtError, ReaderState, ReadsFrom, Result, Some, subst, sym, ℕ, ◌+◌, ◌-◌}
use Rattle.pm_reader.proofs.Common.{◌<◌, ◌^◌, ◌≡◌, ◌≤◌}
use Rattle.std.proofs.Math.Nat.{min-eq_left}
use Rattle.base_values.specs.Counts.{Rose}
use Rattle.pm_format.specs.declared.error.PmtError.TheVariants as errors
use Rattle.pm_format.specs.declared.error.ReadCause.TheVariants as causes

module _ (A B : Type 0) (before now : ℕ) where
  pub causes_again : (e : PmtError) → OpenCauses {A = A} before now (Err e) → OpenCauses {A = B} before now (Err e)
  causes_again errors.OutOfMemory h = h
  causes_again (errors.Reading causes.Fault) h = h
  causes_again e h = h

  pub failure : (e : PmtError) → OpenCauses {A = A} before now (Err e) → IsOpenFailure e
  failure errors.OutOfMemory h = tt
  failure (errors.Reading causes.Fault) h = tt
  failure e h = h

  abbrev Good : Result B PmtError → Type 0
  Good (Ok x) = Unit {0}
  Good (Err e) = ⊥

  pub is_ok : (r : Result B PmtError) (x : B) (e : PmtError) → r ≡ Ok x → r ≡ Err e → ⊥
  is_ok r x e ok err = subst Good err (subst Good (sym ok) tt)

  -- no fault comes where none was counted
  pub no_fault : (r : Result B PmtError) (e : PmtError) → OpenCauses {A = A} before now (Err e) → before < 2 ^ 64 - 1 → now ≡ before → r ≡ Err e → r ≡ Err (errors.Reading causes.Fault) → ⊥
  no_fault r e h below same err fault =
      let P : Result B PmtError → Type 0 = λ t. OpenCauses {A = B} before now t in
      let rose : Rose before now = subst P fault (subst P (sym err) (causes_again e h)) in
      let one : min (before + 1) (2 ^ 64 - 1) ≡ before + 1 = min-eq_left (omega (arith, below)) in
      let more : before + 1 ≤ now = subst (λ (n : ℕ). n ≤ now) one rose in
      absurd (omega (arith, more, same))

-- a cache that holds nothing fits an opened state
pub empty_fits : (told : Option (List ℕ)) (s : ReaderState) (held : Held) (idle : Type 0) → ((o : ℕ) → held o ≡ None) → IsOpen told s → IfSome told (λ b. ReadsFrom b s held idle)
empty_fits None s held idle empty opens = tt
empty_fits (Some b) s held idle empty opens = record { opens = opens; leaves = λ able e d l q. let none = empty (s.header.leaf_offset + e.offset) in absurd (cc) }

-- what is told again opens as the state too
pub opens_again : (told again : Option (List ℕ)) (s : ReaderState) → again ≡ told → IsOpen again s → IsOpen told s
opens_again told again s same opens = let P : Option (List ℕ) → Type 0 = λ o. IsOpen o s in subst P same opens

-- the same of a cache that is given back
pub fits_cache : (C : Type 0) (told : Option (List ℕ)) (s : ReaderState) (held : C → Held) (idle : C → Type 0) (cache again : C) → again ≡ cache → ((o : ℕ) → held cache o ≡ None) → IsOpen told s → IfSome told (λ b. ReadsFrom b s (held again) (idle again))
fits_cache C told s held idle cache again same empty opens =
    let P : C → Type 0 = λ c. IfSome told (λ b. ReadsFrom b s (held c) (idle c)) in
    subst P (sym same) (empty_fits told s (held cache) (idle cache) empty opens)
