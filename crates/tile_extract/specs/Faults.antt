-- What an extraction leaves of the counts of faults of its source and its medium.
use Rattle.std.specs.Prelude.{◌≡◌, ℕ, Result, Ok, Err}
use Rattle.pm_format.specs.Faults.{StandsAtError}
use Rattle.tile_extract.specs.declared.error.ExtractError.{ExtractError}
use Rattle.tile_extract.specs.declared.error.ExtractError.TheVariants.{Archive, MediumFault, OutOfMemory}

-- an error leaves that of the source as it is, but for a fault of the source and running out of memory
abbrev pub SourceStandsAt : ℕ → ℕ → ExtractError → Type 0
SourceStandsAt before now (Archive e) = StandsAtError before now e
SourceStandsAt before now OutOfMemory = Unit {0}
SourceStandsAt before now e = now ≡ before

abbrev pub SourceStands : {A : Type 0} → ℕ → ℕ → Result A ExtractError → Type 0
SourceStands before now (Ok x) = now ≡ before
SourceStands before now (Err e) = SourceStandsAt before now e

-- an error leaves that of the medium as it is, but for a fault of the medium and running out of memory
abbrev pub MediumStandsAt : ℕ → ℕ → ExtractError → Type 0
MediumStandsAt before now MediumFault = Unit {0}
MediumStandsAt before now OutOfMemory = Unit {0}
MediumStandsAt before now e = now ≡ before

abbrev pub MediumStands : {A : Type 0} → ℕ → ℕ → Result A ExtractError → Type 0
MediumStands before now (Ok x) = now ≡ before
MediumStands before now (Err e) = MediumStandsAt before now e
