-- How often a backend was read.
use Rattle.std.specs.Prelude.{ℕ, ◌+◌, ◌-◌, ◌^◌, ◌≤◌, List, [], ◌∷◌, min, Option, Some, None, Result, Ok, Err}
pub use Rattle.byte_media.specs.Kept.{ReadsOnly}
use Rattle.pm_reader.specs.Common.{PmtError}
use Rattle.pm_format.specs.declared.error.PmtError.TheVariants as errors
use Rattle.pm_format.specs.declared.error.ReadCause.TheVariants as causes

-- a count grew by at least low, as far as the end of u64 allows, and by at most high
pub record GrewBetween (before now low high : ℕ) : Type 0 where
  pub least : min (before + low) (2 ^ 64 - 1) ≤ now
  pub later : before ≤ now
  pub most : now ≤ before + high

-- an answer of at least one byte takes one read
abbrev pub reads_for : {E : Type 0} → Result (Option (List ℕ)) E → ℕ
reads_for (Ok None) = 0
reads_for (Ok (Some [])) = 0
reads_for (Ok (Some (byte ∷ bytes))) = 1
reads_for (Err e) = 0

-- a read that comes to nothing isn't among the hops of a look-up
abbrev pub reads_refused : {A E : Type 0} → Result A E → ℕ
reads_refused (Ok x) = 0
reads_refused (Err e) = 1

-- what is read wholly takes one read, and so do a fault and a wrong number of bytes
abbrev pub reads_done : {A : Type 0} → Result A PmtError → ℕ
reads_done (Ok x) = 1
reads_done (Err (errors.Reading causes.Fault)) = 1
reads_done (Err (errors.UnexpectedNumberOfBytesReturned asked got)) = 1
reads_done (Err e) = 0
