-- The document that an archive says of itself.
use Rattle.std.specs.Prelude.{◌≡◌, ℕ, List, Option, Some, None, Result, Ok, Err}
use Rattle.pm_reader.specs.Common.{IsUtf8, PmtError, tilejson_in}
use Rattle.tile_json.specs.declared.document.TileJson.{TileJson}
use Rattle.pm_format.specs.declared.error.PmtError.TheVariants as errors
use Rattle.pm_reader.specs.Metadata.{MetadataAnswers, MetadataCauses}

-- what a text makes of a document, refused exactly where it makes nothing of it
abbrev pub IsDocumentOf : Option TileJson → Result TileJson PmtError → Type 0
IsDocumentOf wanted (Ok x) = wanted ≡ Some x
IsDocumentOf wanted (Err errors.InvalidMetadata) = wanted ≡ None
IsDocumentOf wanted (Err errors.OutOfMemory) = Unit {0}
IsDocumentOf wanted (Err _) = ⊥

-- Over told bytes: the document with what the metadata says, `InvalidMetadata` where the metadata is a text that can't
-- be read so, else why there is no such text.
abbrev pub DocumentAnswers : Result (List ℕ) PmtError → TileJson → Result TileJson PmtError → Type 0
DocumentAnswers range x (Ok y) = (text : List ℕ) × (range ≡ Ok text) × IsUtf8 text × (tilejson_in x text ≡ Some y)
DocumentAnswers range x (Err errors.InvalidMetadata) = (text : List ℕ) × (range ≡ Ok text) × IsUtf8 text × (tilejson_in x text ≡ None)
DocumentAnswers range x (Err e) = MetadataAnswers range (Err e)

-- Told or not: a refusal is one of the metadata, or `InvalidMetadata`.
abbrev pub DocumentCauses : {A : Type 0} → ℕ → ℕ → Result A PmtError → Type 0
DocumentCauses before now (Ok _) = Unit {0}
DocumentCauses before now (Err errors.InvalidMetadata) = Unit {0}
DocumentCauses {A} before now (Err e) = MetadataCauses {A = A} before now (Err e)
