-- What the writing of a dump ends in, where it fails.
use Rattle.std.specs.Prelude.{ℕ, ◌≡◌, ◌≢◌, List, length, Option, None, Result, Ok, Err}
use Rattle.pm_format.specs.declared.error.PmtError.{PmtError}
use Rattle.pm_format.specs.declared.error.PmtError.TheVariants.{Reading, UnexpectedNumberOfBytesReturned}
use Rattle.pm_format.specs.declared.error.ReadCause.TheVariants as causes
use Rattle.tileset.specs.declared.outcome.Outcome.{Outcome}
use Rattle.tileset.specs.declared.outcome.Outcome.TheVariants.{OutputFault, MediumFault, OutOfMemory, ReadBack}

-- a range past the end, or another number of bytes than was asked for
abbrev pub IsOtherRange : PmtError → Type 0
IsOtherRange (Reading causes.PastEnd) = Unit {0}
IsOtherRange (UnexpectedNumberOfBytesReturned asked got) = asked ≢ got
IsOtherRange _ = ⊥

-- the bytes are so many
abbrev pub HasLength : ℕ → List ℕ → Type 0
HasLength n bytes = n ≡ length bytes

abbrev pub DumpCauses : Option (List ℕ) → Result Unit Outcome → Type 0
DumpCauses told (Ok _) = Unit {0}
DumpCauses told (Err OutputFault) = Unit {0}
DumpCauses told (Err MediumFault) = Unit {0}
DumpCauses told (Err OutOfMemory) = Unit {0}
DumpCauses told (Err (ReadBack e)) = (told ≡ None) × IsOtherRange e
DumpCauses told (Err _) = ⊥
