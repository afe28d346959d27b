-- What counts of faults that stand give, where an extraction ends.
use Rattle.tile_extract.proofs.Common.{Archive, ExtractError, MediumFault, of_read_error, of_walk_error, of_write_error, OutOfMemory, PmtError, ℕ, ◌≡◌}
use Rattle.pm_format.proofs.FaultLemmas.{stands_at}
use Rattle.pm_format.specs.Faults.{StandsAtError}
use Rattle.pm_format.specs.declared.error.PmtError.TheVariants as errors
use Rattle.pm_walk.specs.Collecting.{StandsAtStop}
use Rattle.pm_walk.specs.declared.error.WalkError.{WalkError}
use Rattle.pm_walk.specs.declared.error.WalkError.TheVariants as walk
use Rattle.tile_extract.specs.Faults.{MediumStandsAt, SourceStandsAt}

-- an error of the writer, of the reader and of a walk, in the extraction's words
pub write_stands : (before now : ℕ) (e : PmtError) → StandsAtError before now e → MediumStandsAt before now (of_write_error e)
write_stands before now errors.OutOfMemory h = tt
write_stands before now errors.IndexEntryOverflow h = h
write_stands before now e h = tt

pub read_stands : (before now : ℕ) (e : PmtError) → StandsAtError before now e → SourceStandsAt before now (of_read_error e)
read_stands before now errors.OutOfMemory h = tt
read_stands before now e h = h

pub walk_stands : (most before now : ℕ) (x : WalkError) → StandsAtStop before now x → SourceStandsAt before now (of_walk_error most x)
walk_stands most before now (walk.Archive e) h = read_stands before now e h
walk_stands most before now (walk.InvalidTileId id) h = h
walk_stands most before now (walk.TooDeep id) h = h
walk_stands most before now walk.TooManyTiles h = h

-- any error where the count is what it was
pub source_at : (before now : ℕ) (x : ExtractError) → now ≡ before → SourceStandsAt before now x
source_at before now (Archive e) same = stands_at before now e same
source_at before now OutOfMemory same = tt
source_at before now x same = same

pub medium_at : (before now : ℕ) (x : ExtractError) → now ≡ before → MediumStandsAt before now x
medium_at before now MediumFault same = tt
medium_at before now OutOfMemory same = tt
medium_at before now x same = same
