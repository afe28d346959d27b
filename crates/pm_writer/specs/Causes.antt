-- Why a call of a writer ends as it does. Each answer that isn't named never comes.
use Rattle.std.specs.Prelude.{◌≡◌, ◌≢◌, ℕ, ◌<◌, ◌^◌, Bool, true, false, List, length, Result, Ok, Err}
use Rattle.pm_writer.specs.Common.{below_root, Compression, Options, PmtError, Rose}
use Rattle.pm_writer.specs.Archivable.{IsArchivable}
use Rattle.pm_writer.specs.Archive.{archive, parts_of}
use Rattle.pm_writer.specs.Bounds.{AllShort}
use Rattle.pm_writer.specs.Twice.{Distinct, IsLeastTwice}
use Rattle.pm_format.specs.declared.compression.Compression.TheVariants as compression
use Rattle.pm_format.specs.declared.error.PmtError.TheVariants as errors
use Rattle.pm_format.specs.declared.error.ReadCause.TheVariants as causes

-- making a writer: by the label of directories, and by the medium's count of faults before and now
abbrev pub CreateCauses : {A : Type 0} → Compression → ℕ → ℕ → Result A PmtError → Type 0
CreateCauses label before now (Ok _) = label ≡ compression.None
CreateCauses label before now (Err (errors.UnsupportedCompression refused)) = (refused ≡ label) × (label ≢ compression.None)
CreateCauses label before now (Err (errors.Reading causes.Fault)) = (label ≡ compression.None) × Rose before now
CreateCauses label before now (Err errors.OutOfMemory) = label ≡ compression.None
CreateCauses label before now (Err _) = ⊥

-- the same where the counts of faults aren't known
abbrev pub CreateRefusals : {A : Type 0} → Compression → Result A PmtError → Type 0
CreateRefusals label (Ok _) = label ≡ compression.None
CreateRefusals label (Err (errors.UnsupportedCompression refused)) = (refused ≡ label) × (label ≢ compression.None)
CreateRefusals label (Err (errors.Reading causes.Fault)) = label ≡ compression.None
CreateRefusals label (Err errors.OutOfMemory) = label ≡ compression.None
CreateRefusals label (Err _) = ⊥

-- An add: by the label that its bytes would have to be plain under, by whether the writer failed before, by the
-- data's length, and by whether what the data is taken for fits. A length of 2^32 is refused before anything is
-- read; whether the data ends past u64 may be asked of the medium, so that a fault or running out of memory may come in
-- the place of this answer.
abbrev pub AddCauses : Compression → Bool → ℕ → Type 0 → ℕ → ℕ → Result Unit PmtError → Type 0
AddCauses label failed size fits before now (Ok _) = (failed ≡ false) × (label ≡ compression.None) × fits
AddCauses label failed size fits before now (Err errors.Failed) = failed ≡ true
AddCauses label failed size fits before now (Err (errors.UnsupportedCompression refused)) = (failed ≡ false) × (refused ≡ label) × (label ≢ compression.None)
AddCauses label failed size fits before now (Err errors.IndexEntryOverflow) = (failed ≡ false) × (label ≡ compression.None) × (fits → ⊥)
AddCauses label failed size fits before now (Err (errors.Reading causes.Fault)) = (failed ≡ false) × (label ≡ compression.None) × (0 < size) × (size < 2 ^ 32) × Rose before now
AddCauses label failed size fits before now (Err errors.OutOfMemory) = (failed ≡ false) × (label ≡ compression.None) × (0 < size) × (size < 2 ^ 32)
AddCauses label failed size fits before now (Err _) = ⊥

-- whether the writer has failed after a call
abbrev pub failed_after : Bool → Result Unit PmtError → Bool
failed_after failed (Err (errors.Reading causes.Fault)) = true
failed_after failed _ = failed

-- the directories' sizes fit, and the archive ends within u64
abbrev pub ArchiveFits : Options → List (ℕ × List ℕ) → Type 0
ArchiveFits o adds = AllShort (below_root (parts_of o adds)) × (length (archive o adds) < 2 ^ 64)

-- the parts of an archive: the least id that was added twice comes first, and then what is too long
abbrev pub AssembleCauses : {A : Type 0} → Options → List (ℕ × List ℕ) → Result A PmtError → Type 0
AssembleCauses o adds (Ok _) = IsArchivable o adds
AssembleCauses o adds (Err (errors.OverlappingEntries id)) = IsLeastTwice adds id
AssembleCauses o adds (Err errors.IndexEntryOverflow) = Distinct adds × (ArchiveFits o adds → ⊥)
AssembleCauses o adds (Err errors.OutOfMemory) = Distinct adds
AssembleCauses o adds (Err _) = ⊥

-- finishing an archive: by whether the writer failed before, and by the medium's count of faults before and now
abbrev pub FinishCauses : {A : Type 0} → Options → List (ℕ × List ℕ) → Bool → ℕ → ℕ → Result A PmtError → Type 0
FinishCauses o adds failed before now (Ok _) = (failed ≡ false) × IsArchivable o adds
FinishCauses o adds failed before now (Err errors.Failed) = failed ≡ true
FinishCauses o adds failed before now (Err (errors.OverlappingEntries id)) = (failed ≡ false) × IsLeastTwice adds id
FinishCauses o adds failed before now (Err errors.IndexEntryOverflow) = (failed ≡ false) × Distinct adds × (ArchiveFits o adds → ⊥)
FinishCauses o adds failed before now (Err (errors.Reading causes.Fault)) = (failed ≡ false) × IsArchivable o adds × Rose before now
FinishCauses o adds failed before now (Err errors.OutOfMemory) = (failed ≡ false) × Distinct adds
FinishCauses o adds failed before now (Err _) = ⊥

-- laying directories out: by whether each one's size fits
abbrev pub SizeCauses : {A : Type 0} → Type 0 → Result A PmtError → Type 0
SizeCauses fits (Ok _) = fits
SizeCauses fits (Err errors.IndexEntryOverflow) = fits → ⊥
SizeCauses fits (Err errors.OutOfMemory) = Unit {0}
SizeCauses fits (Err _) = ⊥
