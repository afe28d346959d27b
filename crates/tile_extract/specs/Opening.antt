-- The tests before the tiles of an archive are sought: the medium is empty, and the source opens and has metadata.
use Rattle.std.specs.Prelude.{◌≡◌, ◌⊎◌, ◌<◌, ℕ, List, length, Option, Result, Ok, Err, IfSome}
use Rattle.tile_extract.specs.Common.{header_of, IsUtf8, metadata_read, Opened, opened, OpensAs, PmtError, Rose}
use Rattle.pm_format.specs.declared.error.PmtError.TheVariants as errors
use Rattle.pm_format.specs.declared.error.ReadCause.TheVariants as causes
use Rattle.pm_reader.specs.declared.state.ReaderState.{ReaderState}
use Rattle.tile_extract.specs.Extract.{IsEmpty, IsMetadataRefused, ReadCauses}
use Rattle.tile_extract.specs.declared.error.ExtractError.{ExtractError}
use Rattle.tile_extract.specs.declared.error.ExtractError.TheVariants.{MediumNotEmpty, Archive, MediumFault, OutOfMemory}

-- the test of the medium, by what it tells and by its counts of faults
abbrev pub MediumTested : Option (List ℕ) → ℕ → ℕ → Result Unit ExtractError → Type 0
MediumTested held old new (Ok x) = IsEmpty held
MediumTested held old new (Err (MediumNotEmpty n)) = (0 < n) × IfSome held (λ b. n ≡ length b)
MediumTested held old new (Err MediumFault) = Rose old new
MediumTested held old new (Err e) = ⊥

-- Over told bytes: a refusal of opening or of the metadata. A fault may come in its place, and a wrong
-- number of bytes never does.
abbrev pub IsUnread : List ℕ → PmtError → Type 0
IsUnread b (errors.Reading causes.Fault) = Unit {0}
IsUnread b (errors.UnexpectedNumberOfBytesReturned asked got) = ⊥
IsUnread b errors.OutOfMemory = ⊥
IsUnread b e = (opened b ≡ Err e) ⊎ ((found : Opened) × (opened b ≡ Ok found) × IsMetadataRefused (metadata_read b found.0) e)

-- or the header, the root and the metadata
abbrev pub SourceRead : List ℕ → Result (ReaderState × List ℕ) ExtractError → Type 0
SourceRead b (Ok x) = OpensAs b x.0 × (metadata_read b (header_of x.0) ≡ Ok x.1) × IsUtf8 x.1
SourceRead b (Err (Archive e)) = IsUnread b e
SourceRead b (Err OutOfMemory) = Unit {0}
SourceRead b (Err e) = ⊥

-- told or not, why it isn't read
abbrev pub SourceCauses : {A : Type 0} → ℕ → ℕ → Result A ExtractError → Type 0
SourceCauses before now (Ok x) = Unit {0}
SourceCauses before now (Err (Archive e)) = ReadCauses before now e
SourceCauses before now (Err OutOfMemory) = Unit {0}
SourceCauses before now (Err e) = ⊥

-- how often it is read: once to be opened, and once for the metadata
abbrev pub opening_reads : Result Opened PmtError → ℕ
opening_reads (Ok o) = 2
opening_reads (Err e) = 1
