-- What the tests of a tile entry answer.
use Rattle.std.specs.Prelude.{◌≡◌, ◌≢◌, ◌≤◌, ◌<◌, List, ℕ, Option, None, Result, Ok, Err}
use Rattle.pm_walk.specs.Common.{MAX_TILE_ID, PmtError}
use Rattle.pm_format.specs.declared.error.PmtError.TheVariants as errors
use Rattle.pm_format.specs.declared.error.ReadCause.TheVariants as causes
use Rattle.pm_walk.specs.declared.error.WalkError.{WalkError}
use Rattle.pm_walk.specs.declared.error.WalkError.TheVariants.{InvalidTileId, TooDeep}
use Rattle.pm_walk.specs.declared.extent.TheConstants.{FIRST_TOO_DEEP}

-- Over told bytes: a range lies in them, or it passes their end. A fault and running out of memory may come in the
-- place of both, and a wrong number of bytes never does.
abbrev pub RangeTests : Option (List ℕ) → Result Unit PmtError → Type 0
RangeTests range (Ok x) = range ≢ None
RangeTests range (Err errors.OutOfMemory) = Unit {0}
RangeTests range (Err (errors.Reading causes.Fault)) = Unit {0}
RangeTests range (Err (errors.Reading causes.PastEnd)) = range ≡ None
RangeTests range (Err e) = ⊥

-- an id of a run that isn't one of a set's tiles: past those of tiles, or of zoom 31
abbrev pub IsOfRun : WalkError → Type 0
IsOfRun (InvalidTileId id) = MAX_TILE_ID < id
IsOfRun (TooDeep id) = (FIRST_TOO_DEEP ≤ id) × (id ≤ MAX_TILE_ID)
IsOfRun x = ⊥
