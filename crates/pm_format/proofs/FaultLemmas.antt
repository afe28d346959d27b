-- What a count of faults that stands gives.
use Rattle.pm_format.proofs.Common.{Result, subst, ℕ, ◌≡◌}
use Rattle.pm_format.specs.Faults.{FaultsStand, StandsAtError}
use Rattle.pm_format.specs.declared.error.PmtError.{PmtError}
use Rattle.pm_format.specs.declared.error.PmtError.TheVariants as errors
use Rattle.pm_format.specs.declared.error.ReadCause.TheVariants as causes

-- an error that comes where the count is what it was
pub stands_at : (before now : ℕ) (e : PmtError) → now ≡ before → StandsAtError before now e
stands_at before now (errors.Reading causes.Fault) same = tt
stands_at before now errors.OutOfMemory same = tt
stands_at before now e same = same

-- an answer behind another call, at whose end the count was what it was
pub stands_then : {A : Type 0} (before mid now : ℕ) (r : Result A PmtError) → mid ≡ before → FaultsStand mid now r → FaultsStand before now r
stands_then before mid now r same h = subst (λ n. FaultsStand n now r) same h
