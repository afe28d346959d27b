-- Why a server isn't made.
use Rattle.tile_serve.proofs.Common.{arith, Err, IfErr, IfErr-at_err, IsOpeningError, OpeningCauses, Result, Rose, ServeError, ℕ, ◌-◌, ◌<◌, ◌^◌, ◌≡◌}
use Rattle.pm_format.specs.declared.error.PmtError.TheVariants as opening
use Rattle.pm_format.specs.declared.error.ReadCause.TheVariants as causes
use Rattle.tile_serve.specs.declared.error.ServeError.TheVariants as errors

pub failure : (before now : ℕ) (e : ServeError) → OpeningCauses before now e → IsOpeningError e
failure before now (errors.Opening opening.OutOfMemory) h = tt
failure before now (errors.Opening (opening.Reading causes.Fault)) h = tt
failure before now e h = h

-- no fault comes where none was counted
pub no_fault : {A : Type 0} (before now : ℕ) (r : Result A ServeError) → IfErr r (OpeningCauses before now) → before < 2 ^ 64 - 1 → now ≡ before → r ≡ Err (errors.Opening (opening.Reading causes.Fault)) → ⊥
no_fault before now r h below same fault =
    let rose : Rose before now = IfErr-at_err (OpeningCauses before now) fault h in
    omega (arith, below, same, rose)
