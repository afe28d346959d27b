-- Reading the archive back that was written: what is answered, and why not.
use Rattle.std.specs.Prelude.{◌≡◌, ◌≢◌, ℕ, ◌+◌, ◌-◌, ◌^◌, ◌≤◌, min, List, [], ◌∷◌, map, Option, Some, None, Result, Ok, Err}
use Rattle.tile_bridge.specs.Common.{archive_map, archive_tile, Coord, id_of, PmtError, Rose}
use Rattle.pm_format.specs.declared.error.PmtError.TheVariants as errors
use Rattle.pm_format.specs.declared.error.ReadCause.TheVariants as causes
use Rattle.pm_reader.specs.Opening.{IsOpenRefusal}
use Rattle.tile_bridge.specs.declared.error.ConvertError.{ConvertError}
use Rattle.tile_bridge.specs.declared.error.ConvertError.TheVariants as refusals

-- how many of the answers have at least one byte
abbrev pub answered_by : Option (List ℕ) → ℕ
answered_by None = 0
answered_by (Some []) = 0
answered_by (Some (byte ∷ bytes)) = 1

abbrev pub answered : List (Option (List ℕ)) → ℕ
answered [] = 0
answered (a ∷ answers) = answered_by a + answered answers

-- a count grew by at least n, as far as the end of u64 allows
abbrev pub GrewFrom : ℕ → ℕ → ℕ → Type 0
GrewFrom before now n = min (before + n) (2 ^ 64 - 1) ≤ now

-- What is wrong with an archive that is read back, or with what is read of it: its end, another number of bytes than
-- was asked for, or what bytes may be refused for where they are opened. No version texts are compared.
abbrev pub IsReadBack : PmtError → Type 0
IsReadBack (errors.Reading causes.PastEnd) = Unit {0}
IsReadBack (errors.UnexpectedNumberOfBytesReturned asked got) = asked ≢ got
IsReadBack e = IsOpenRefusal e

-- Told or not: a refusal is one of these, running out of memory, or a fault, which comes only where
-- the count of faults rose.
abbrev pub ReadBackCauses : {A : Type 0} → ℕ → ℕ → Result A PmtError → Type 0
ReadBackCauses before now (Ok _) = Unit {0}
ReadBackCauses before now (Err errors.OutOfMemory) = Unit {0}
ReadBackCauses before now (Err (errors.Reading causes.Fault)) = Rose before now
ReadBackCauses before now (Err e) = IsReadBack e

-- only running out of memory and a fault come in place of an answer
abbrev pub IsHindered : PmtError → Type 0
IsHindered errors.OutOfMemory = Unit {0}
IsHindered (errors.Reading causes.Fault) = Unit {0}
IsHindered _ = ⊥

-- Over told bytes: the tile at an id, or why the look-up is refused.
abbrev pub GivesTile : List ℕ → ℕ → Result (Option (List ℕ)) PmtError → Type 0
GivesTile b t (Ok tile) = tile ≡ archive_map b t
GivesTile b t (Err errors.OutOfMemory) = Unit {0}
GivesTile b t (Err (errors.Reading causes.Fault)) = Unit {0}
GivesTile b t (Err e) = archive_tile b t ≡ Err e

-- Over a well-formed archive: its tiles at the coordinates.
abbrev pub ReadsAnswers : List ℕ → List Coord → Result (List (Option (List ℕ))) PmtError → Type 0
ReadsAnswers b coords (Ok answers) = answers ≡ map (λ c. archive_map b (id_of c)) coords
ReadsAnswers b coords (Err e) = IsHindered e

-- the conversion's word for a refusal of the reader
abbrev pub of_read_error : PmtError → ConvertError
of_read_error errors.OutOfMemory = refusals.OutOfMemory
of_read_error (errors.Reading causes.Fault) = refusals.MediumFault
of_read_error e = refusals.ReadBack e
