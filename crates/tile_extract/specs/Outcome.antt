-- The status of each outcome.
use Rattle.std.specs.Prelude.{ℕ}
use Rattle.pm_format.specs.Status.{archive_status}
use Rattle.pm_format.specs.declared.status.TheConstants.{DONE, REFUSED, USAGE, FAULT, OUT_OF_MEMORY}
use Rattle.tile_extract.specs.declared.error.ExtractError.TheVariants as extract
use Rattle.tile_extract.specs.declared.outcome.ExtractOutcome.{ExtractOutcome}
use Rattle.tile_extract.specs.declared.outcome.ExtractOutcome.TheVariants.{Done, Refused, Usage, OutOfMemory}

abbrev pub status : ExtractOutcome → ℕ
status (Done p) = DONE
status (Refused (extract.Archive e)) = archive_status e
status (Refused extract.MediumFault) = FAULT
status (Refused e) = REFUSED
status Usage = USAGE
status OutOfMemory = OUT_OF_MEMORY
