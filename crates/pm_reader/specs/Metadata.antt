-- The metadata of an archive.
use Rattle.std.specs.Prelude.{◌≡◌, ◌≢◌, ℕ, List, Result, Ok, Err}
use Rattle.pm_reader.specs.Common.{Header, IsUtf8, PmtError, Rose}
use Rattle.pm_format.specs.declared.error.PmtError.TheVariants as errors
use Rattle.pm_format.specs.declared.error.ReadCause.TheVariants as causes
use Rattle.pm_reader.specs.Answers.{Gives, range_read}

-- where the header says that the metadata is
abbrev pub metadata_read : List ℕ → Header → Result (List ℕ) PmtError
metadata_read b h = range_read b h.metadata_offset h.metadata_length

-- bytes as a text, refused exactly where they aren't UTF-8
abbrev pub IsTextOf : List ℕ → Result (List ℕ) PmtError → Type 0
IsTextOf bytes (Ok text) = (text ≡ bytes) × IsUtf8 bytes
IsTextOf bytes (Err errors.InvalidMetadataUtf8Encoding) = ¬ (IsUtf8 bytes)
IsTextOf bytes (Err errors.OutOfMemory) = Unit {0}
IsTextOf bytes (Err _) = ⊥

-- Over told bytes: the metadata's bytes where they are there and are UTF-8, else why not. Want of memory and a fault
-- may come in their place.
abbrev pub MetadataAnswers : Result (List ℕ) PmtError → Result (List ℕ) PmtError → Type 0
MetadataAnswers range (Ok text) = (range ≡ Ok text) × IsUtf8 text
MetadataAnswers range (Err errors.InvalidMetadataUtf8Encoding) = (bytes : List ℕ) × (range ≡ Ok bytes) × ¬ (IsUtf8 bytes)
MetadataAnswers range (Err (errors.SourceModified a b)) = ⊥
MetadataAnswers range (Err errors.BudgetSpent) = ⊥
MetadataAnswers range (Err e) = Gives range (Err e)

-- Told or not: a refusal is one of the text, the end of the bytes, a wrong number of bytes, running out of memory, or a
-- fault, which comes only where the count of faults rose.
abbrev pub MetadataCauses : {A : Type 0} → ℕ → ℕ → Result A PmtError → Type 0
MetadataCauses before now (Ok _) = Unit {0}
MetadataCauses before now (Err errors.InvalidMetadataUtf8Encoding) = Unit {0}
MetadataCauses before now (Err (errors.Reading causes.PastEnd)) = Unit {0}
MetadataCauses before now (Err (errors.Reading causes.Fault)) = Rose before now
MetadataCauses before now (Err (errors.UnexpectedNumberOfBytesReturned asked got)) = asked ≢ got
MetadataCauses before now (Err errors.OutOfMemory) = Unit {0}
MetadataCauses before now (Err _) = ⊥
