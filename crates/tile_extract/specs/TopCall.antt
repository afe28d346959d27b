-- What a run of the extractor ends in.
use Rattle.std.specs.Prelude.{Option, Some, None, Result, Ok, Err}
use Rattle.tile_extract.specs.Common.{ArchivePlaces}
use Rattle.tile_extract.specs.Words.{Asked}
use Rattle.tile_extract.specs.declared.error.ExtractError.{ExtractError}
use Rattle.tile_extract.specs.declared.error.ExtractError.TheVariants as errors
use Rattle.tile_extract.specs.declared.outcome.ExtractOutcome.{ExtractOutcome}
use Rattle.tile_extract.specs.declared.outcome.ExtractOutcome.TheVariants.{Done, Refused, Usage, OutOfMemory}

-- usage is the outcome exactly where the words ask for nothing
abbrev pub IsFor : Option Asked → ExtractOutcome → Type 0
IsFor None Usage = Unit {0}
IsFor None outcome = ⊥
IsFor (Some asked) Usage = ⊥
IsFor (Some asked) outcome = Unit {0}

-- what holds of the answer of the extraction that an outcome stands for
abbrev pub OfExtract : (Result ArchivePlaces ExtractError → Type 0) → ExtractOutcome → Type 0
OfExtract P (Done p) = P (Ok p)
OfExtract P (Refused e) = P (Err e)
OfExtract P Usage = Unit {0}
OfExtract P OutOfMemory = P (Err errors.OutOfMemory)
