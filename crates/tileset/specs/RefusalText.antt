-- The words in which the refusal of a store is shown.
use Rattle.std.specs.Prelude.{◌≡◌, ℕ, ◌&&◌, not, List, [], ◌∷◌, ◌++◌, codes, flat_map, if◌then◌else◌, nat_eq, refl}
use Rattle.std.specs.Char.{is_ascii_graphic}
use Rattle.tileset.specs.Common.{encode_lower, encode_upper, encode_with, layout_words, signed_decimal}
use Rattle.mb_tables.specs.Table.{table_text}
use Rattle.mb_tables.specs.declared.cell.Cell.{Cell}
use Rattle.mb_tables.specs.declared.cell.Cell.TheVariants.{Null, Int, Text, Blob, Other}
use Rattle.mb_tables.specs.declared.error.MbtError.{MbtError}
use Rattle.mb_tables.specs.declared.error.MbtError.TheVariants as errors
use Rattle.mb_tables.specs.declared.table.TableName.TheVariants.{Images}

-- a byte of a text as a script spells it: by itself from 21 to 7E, but else by `%` and two digits
abbrev pub spelled_byte : ℕ → List ℕ
spelled_byte b = if is_ascii_graphic b && not (nat_eq b 37) then b ∷ [] else codes "%" ++ encode_upper (b ∷ [])

-- a cell as a script spells it
abbrev pub cell_text : Cell → List ℕ
cell_text Null = codes "n"
cell_text Other = codes "o"
cell_text (Int n) = codes "i" ++ signed_decimal n
cell_text (Blob bytes) = codes "x" ++ encode_lower bytes
cell_text (Text bytes) = codes "t" ++ flat_map spelled_byte bytes

abbrev pub store_name : MbtError → List ℕ
store_name errors.InvalidDataFormat = codes "InvalidDataFormat"
store_name errors.NoUniquenessConstraint = codes "NoUniquenessConstraint"
store_name (errors.DuplicateRow table) = codes "DuplicateRow"
store_name errors.StoreFault = codes "StoreFault"
store_name (errors.UnsupportedHashAlgorithm algorithm) = codes "UnsupportedHashAlgorithm"
store_name (errors.InvalidTileIndex zoom column row) = codes "InvalidTileIndex"
store_name (errors.MissingTileReference id table) = codes "MissingTileReference"
store_name (errors.IncorrectTileHash stored computed) = codes "IncorrectTileHash"
store_name (errors.AggHashMismatch computed stored) = codes "AggHashMismatch"
store_name errors.AggHashValueNotFound = codes "AggHashValueNotFound"
store_name errors.CannotDiffFileWithoutHash = codes "CannotDiffFileWithoutHash"
store_name errors.DiffingDiffFile = codes "DiffingDiffFile"
store_name errors.PatchFileHasNoHashes = codes "PatchFileHasNoHashes"
store_name errors.PatchFileHasNoBeforeHash = codes "PatchFileHasNoBeforeHash"
store_name (errors.AggHashMismatchWithDiff before agg) = codes "AggHashMismatchWithDiff"
store_name errors.UnsupportedPatchType = codes "UnsupportedPatchType"
store_name errors.UnsupportedCopyOperation = codes "UnsupportedCopyOperation"
store_name (errors.IdCollision id) = codes "IdCollision"
store_name errors.DuplicateValues = codes "DuplicateValues"
store_name errors.DestinationFileExists = codes "DestinationFileExists"
store_name errors.NonEmptyTargetFile = codes "NonEmptyTargetFile"
store_name (errors.MismatchedTargetType actual desired) = codes "MismatchedTargetType"
store_name (errors.AggHashMismatchAfterApply after agg) = codes "AggHashMismatchAfterApply"
store_name (errors.InvalidZoomValue name value) = codes "InvalidZoomValue"
store_name (errors.UnsupportedFileExtension path) = codes "UnsupportedFileExtension"
store_name (errors.InconsistentTileFormats path) = codes "InconsistentTileFormats"
store_name errors.NoFormatInMetadata = codes "NoFormatInMetadata"
store_name (errors.UnknownFormatInMetadata format) = codes "UnknownFormatInMetadata"
store_name errors.TreeFault = codes "TreeFault"
store_name errors.NotACacheFile = codes "NotACacheFile"
store_name errors.OutOfMemory = codes "OutOfMemory"

-- its fields in their order. Texts are shown as they are
abbrev pub store_fields : MbtError → List (List ℕ)
store_fields (errors.DuplicateRow table) = table_text table ∷ []
store_fields (errors.UnsupportedHashAlgorithm algorithm) = algorithm ∷ []
store_fields (errors.InvalidTileIndex zoom column row) = cell_text zoom ∷ cell_text column ∷ cell_text row ∷ []
store_fields (errors.MissingTileReference id table) = id ∷ table_text table ∷ []
store_fields (errors.IncorrectTileHash stored computed) = stored ∷ computed ∷ []
store_fields (errors.AggHashMismatch computed stored) = computed ∷ stored ∷ []
store_fields (errors.AggHashMismatchWithDiff before agg) = before ∷ agg ∷ []
store_fields (errors.IdCollision id) = id ∷ []
store_fields (errors.MismatchedTargetType actual desired) = layout_words actual ∷ layout_words desired ∷ []
store_fields (errors.AggHashMismatchAfterApply after agg) = after ∷ agg ∷ []
store_fields (errors.InvalidZoomValue name value) = name.now ∷ value ∷ []
store_fields (errors.UnsupportedFileExtension path) = path ∷ []
store_fields (errors.InconsistentTileFormats path) = path ∷ []
store_fields (errors.UnknownFormatInMetadata format) = format ∷ []
store_fields _ = []

-- each of some fields after a space
abbrev pub spaced : List (List ℕ) → List ℕ
spaced [] = []
spaced (field ∷ []) = codes " " ++ field
spaced (field ∷ next ∷ fields) = codes " " ++ (field ++ spaced (next ∷ fields))

-- the name of a refusal, and its fields
abbrev pub store_text : MbtError → List ℕ
store_text e = store_name e ++ spaced (store_fields e)

pub escaped_text : cell_text (Text (codes "a %")) ≡ codes "ta%20%25"
unfolding encode_with
escaped_text = refl

pub two_bytes : cell_text (Blob (15 ∷ 160 ∷ [])) ≡ codes "x0fa0"
unfolding encode_with
two_bytes = refl

pub hash_not_right : store_text (errors.AggHashMismatchWithDiff (codes "C") (codes "A")) ≡ codes "AggHashMismatchWithDiff C A"
hash_not_right = refl

pub no_reference : store_text (errors.MissingTileReference (codes "7") Images) ≡ codes "MissingTileReference 7 images"
no_reference = refl
