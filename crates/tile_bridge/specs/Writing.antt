-- Writing the adds of a set to a medium.
use Rattle.std.specs.Prelude.{◌≡◌, ◌≢◌, ℕ, ◌≤◌, true, List, [], All, Result, Ok, Err}
use Rattle.tile_bridge.specs.Common.{AreFew, is_sorted, MAX_TILE_ID, nat_cmp, Options, PmtError, Rose}
use Rattle.pm_format.specs.declared.error.PmtError.TheVariants as errors
use Rattle.pm_format.specs.declared.error.ReadCause.TheVariants as causes
use Rattle.pm_writer.specs.Bounds.{OptionsFit}
use Rattle.tile_bridge.specs.declared.error.ConvertError.{ConvertError}
use Rattle.tile_bridge.specs.declared.error.ConvertError.TheVariants as refusals

-- adds by rising id, none of them empty, that are few and short enough for any archive, and options within their types
pub record CanBeWritten (o : Options) (adds : List (ℕ × List ℕ)) : Type 0 where
  pub options : OptionsFit o
  pub rising : is_sorted nat_cmp adds ≡ true
  pub low : All (λ a. a.0 ≤ MAX_TILE_ID) adds
  pub filled : All (λ a. a.1 ≢ []) adds
  pub few : AreFew o adds

-- a refusal is a fault, which comes only where the count of faults rose, or running out of memory
abbrev pub WriteCauses : {A : Type 0} → ℕ → ℕ → Result A PmtError → Type 0
WriteCauses before now (Ok _) = Unit {0}
WriteCauses before now (Err (errors.Reading causes.Fault)) = Rose before now
WriteCauses before now (Err errors.OutOfMemory) = Unit {0}
WriteCauses before now (Err _) = ⊥

-- the conversion's word for a refusal of the writer
abbrev pub of_write_error : PmtError → ConvertError
of_write_error errors.OutOfMemory = refusals.OutOfMemory
of_write_error _ = refusals.MediumFault
