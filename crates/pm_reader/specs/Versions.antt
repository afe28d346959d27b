-- Version texts: what is answered where a backend gives them.
use Rattle.std.specs.Prelude.{◌≡◌, ◌≢◌, ℕ, List, Option, Some, None, Result, Ok, Err, IfSome}
use Rattle.pm_format.specs.declared.compression.Compression.{Compression}
use Rattle.pm_format.specs.declared.compression.Compression.TheVariants as compression
use Rattle.pm_reader.specs.Common.{BackendResponse, PmtError}
use Rattle.pm_format.specs.declared.error.PmtError.TheVariants as errors
use Rattle.pm_reader.specs.Answers.{Gives, LookUpCauses}

-- where both texts are given, they are equal
abbrev pub Agree : Option (List ℕ) → Option (List ℕ) → Type 0
Agree (Some a) (Some b) = a ≡ b
Agree None b = Unit {0}
Agree (Some a) None = Unit {0}

-- a response is answered by its bytes, or refused exactly where both texts are given and differ; running out of memory
-- may come in place of that refusal
abbrev pub IsCompared : Option (List ℕ) → BackendResponse → Result (List ℕ) PmtError → Type 0
IsCompared opened r (Ok bytes) = (bytes ≡ r.bytes) × Agree opened r.data_version_string
IsCompared opened r (Err (errors.SourceModified a b)) = (opened ≡ Some a) × (r.data_version_string ≡ Some b) × (a ≢ b)
IsCompared opened r (Err errors.OutOfMemory) = Unit {0}
IsCompared opened r (Err _) = ⊥

-- Over told bytes: the wanted answer is given, or another text for a tile that is there. Want of memory and a
-- fault may come in its place.
abbrev pub GivesUnmodified : Result (Option (List ℕ)) PmtError → Result (Option (List ℕ)) PmtError → Result (Option (List ℕ)) PmtError → Type 0
GivesUnmodified tile wanted (Ok found) = wanted ≡ Ok found
GivesUnmodified tile wanted (Err (errors.SourceModified a b)) = (bytes : List ℕ) × (tile ≡ Ok (Some bytes))
GivesUnmodified tile wanted (Err errors.InvalidMetadataUtf8Encoding) = ⊥
GivesUnmodified tile wanted (Err errors.BudgetSpent) = ⊥
GivesUnmodified tile wanted (Err e) = Gives wanted (Err e)

-- With the text of the opening, the texts of each read where they are told, and the number of the last read: a tile is
-- answered only where the texts agree, and refused as modified only where they are the two that differ.
abbrev pub ComparesTexts : Option (List ℕ) → Option (ℕ → Option (List ℕ)) → ℕ → Result (Option (List ℕ)) PmtError → Type 0
ComparesTexts opened versions number (Ok None) = Unit {0}
ComparesTexts opened versions number (Ok (Some bytes)) = IfSome versions (λ text. Agree opened (text number))
ComparesTexts opened versions number (Err (errors.SourceModified a b)) = (opened ≡ Some a) × (a ≢ b) × IfSome versions (λ text. text number ≡ Some b)
ComparesTexts opened versions number (Err (errors.UnsupportedCompression label)) = IfSome versions (λ text. Agree opened (text number))
ComparesTexts opened versions number (Err _) = Unit {0}

-- Told or not: a refusal is one of a look-up, or of the version texts.
abbrev pub UnmodifiedCauses : {A : Type 0} → ℕ → ℕ → Result A PmtError → Type 0
UnmodifiedCauses before now (Ok _) = Unit {0}
UnmodifiedCauses before now (Err (errors.SourceModified a b)) = Unit {0}
UnmodifiedCauses {A = A} before now (Err e) = LookUpCauses {A = A} before now (Err e)

-- a tile that is to be plain: refused where there is one and tiles are labelled otherwise
abbrev pub plain : Compression → Result (Option (List ℕ)) PmtError → Result (Option (List ℕ)) PmtError
plain compression.None tile = tile
plain label (Ok (Some bytes)) = Err (errors.UnsupportedCompression label)
plain label (Ok None) = Ok None
plain label (Err e) = Err e

-- the causes of a look-up that asks for a plain tile
abbrev pub PlainCauses : {A : Type 0} → Compression → ℕ → ℕ → Result A PmtError → Type 0
PlainCauses label before now (Err (errors.UnsupportedCompression refused)) = (refused ≡ label) × (label ≢ compression.None)
PlainCauses label before now result = UnmodifiedCauses before now result
