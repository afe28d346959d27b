-- What the answer of a call on archives says of the count of faults of the object that it asks.
use Rattle.std.specs.Prelude.{◌≡◌, ℕ, Result, Ok, Err}
use Rattle.pm_format.specs.declared.error.PmtError.{PmtError}
use Rattle.pm_format.specs.declared.error.PmtError.TheVariants as errors
use Rattle.pm_format.specs.declared.error.ReadCause.TheVariants as causes

-- an error leaves the count as it is, but for a fault and running out of memory
abbrev pub StandsAtError : ℕ → ℕ → PmtError → Type 0
StandsAtError before now (errors.Reading causes.Fault) = Unit {0}
StandsAtError before now errors.OutOfMemory = Unit {0}
StandsAtError before now e = now ≡ before

-- an answer leaves the count as it is, but for a fault and running out of memory
abbrev pub FaultsStand : {A : Type 0} → ℕ → ℕ → Result A PmtError → Type 0
FaultsStand before now (Ok x) = now ≡ before
FaultsStand before now (Err e) = StandsAtError before now e
