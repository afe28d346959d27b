-- What an archive says of itself, read out of its bytes.
use Rattle.std.specs.Prelude.{◌≡◌, ◌⊎◌, ℕ, List, None, Result, Ok, Err}
use Rattle.std.specs.Str.{IsUtf8}
use Rattle.set_options.specs.Document.{IsDocumentOf, object_in}
use Rattle.pm_format.specs.Opened.{Opened, opened}
use Rattle.set_import.specs.Common.{Archive, ArchiveCauses, ImportError, metadata_read, MetadataAnswers, OutOfMemory, PmtError, TileJson}
use Rattle.pm_format.specs.declared.error.PmtError.TheVariants as errors
use Rattle.pm_format.specs.declared.error.ReadCause.TheVariants as causes
use Rattle.pm_format.specs.declared.header.Header.{Header}

-- the document of a header and a text, refused exactly where the text is no object of JSON
abbrev pub IsDocumentBy : Header → List ℕ → Result TileJson PmtError → Type 0
IsDocumentBy h text (Ok t) = IsDocumentOf h text t
IsDocumentBy h text (Err errors.InvalidMetadata) = object_in text ≡ None
IsDocumentBy h text (Err errors.OutOfMemory) = Unit {0}
IsDocumentBy h text (Err _) = ⊥

-- the same of the range of the metadata: it is there and UTF-8, or why not
abbrev pub DocumentAnswers : Header → Result (List ℕ) PmtError → Result TileJson PmtError → Type 0
DocumentAnswers h range (Ok t) = (text : List ℕ) × (range ≡ Ok text) × IsUtf8 text × IsDocumentOf h text t
DocumentAnswers h range (Err errors.InvalidMetadata) = (text : List ℕ) × (range ≡ Ok text) × IsUtf8 text × (object_in text ≡ None)
DocumentAnswers h range (Err e) = MetadataAnswers range (Err e)

-- the same of bytes that open
abbrev pub OpenedAnswers : List ℕ → Opened → Result TileJson PmtError → Type 0
OpenedAnswers b o r = DocumentAnswers o.0 (metadata_read b o.0) r

-- bytes open, and this is what they say of themselves
pub record IsSaidBy (b : List ℕ) (t : TileJson) : Type 0 where
  pub opened_as : Opened
  pub opens : opened b ≡ Ok opened_as
  pub says : OpenedAnswers b opened_as (Ok t)

-- bytes don't open, or what they say of themselves can't be read
abbrev pub IsUnsaid : List ℕ → PmtError → Type 0
IsUnsaid b e = (opened b ≡ Err e) ⊎ ((o : Opened) × (opened b ≡ Ok o) × OpenedAnswers b o (Err e))

-- the document that bytes say of themselves, or the refusal
abbrev pub IsSaidAs : List ℕ → Result TileJson PmtError → Type 0
IsSaidAs b (Ok t) = IsSaidBy b t
IsSaidAs b (Err e) = IsUnsaid b e

-- Over told bytes: the document, or the first refusal. Want of memory and a fault may come in its place.
abbrev pub SaidAnswers : List ℕ → Result TileJson ImportError → Type 0
SaidAnswers b (Ok t) = IsSaidBy b t
SaidAnswers b (Err (Archive (errors.Reading causes.Fault))) = Unit {0}
SaidAnswers b (Err (Archive e)) = IsUnsaid b e
SaidAnswers b (Err OutOfMemory) = Unit {0}
SaidAnswers b (Err _) = ⊥

-- Told or not: why. Metadata that isn't UTF-8 or no object of JSON, or a refusal as those of an import.
abbrev pub UnsaidCauses : ℕ → ℕ → PmtError → Type 0
UnsaidCauses before now errors.InvalidMetadata = Unit {0}
UnsaidCauses before now errors.InvalidMetadataUtf8Encoding = Unit {0}
UnsaidCauses before now e = ArchiveCauses before now e

abbrev pub SaidCauses : ℕ → ℕ → ImportError → Type 0
SaidCauses before now (Archive e) = UnsaidCauses before now e
SaidCauses before now OutOfMemory = Unit {0}
SaidCauses before now _ = ⊥
