-- Sets that are refused, each by one test.
use Rattle.std.specs.Prelude.{◌≡◌, ℕ, codes, pos, negsuc, refl, cond, false, List, [], ◌∷◌, None, Err}
use Rattle.mb_load.specs.LoadingOrder.{refusals}
use Rattle.mb_load.specs.Common.{Cell, first_refusal, Flat, Images, InvalidDataFormat, InvalidTileIndex, Map, MbtType, Metadata, MissingTileReference, Normalized, NoUniquenessConstraint, table_eq}
use Rattle.mb_load.specs.Common.{TableName, Tables, Tiles, UnsupportedHashAlgorithm}
use Rattle.mb_load.specs.StateOf.{state_of}
use Rattle.mb_tables.specs.Schema.{set_tables}
use Rattle.mb_tables.specs.declared.cell.Cell.TheVariants.{Null, Int, Text, Blob, Other}
use Rattle.mb_tables.specs.declared.kind.NormalizedSchema.TheVariants.{Hash}

-- a set of a layout with rows of tiles, of contents and of metadata
abbrev set_of : MbtType → TableName → List (List Cell) → List (List Cell) → List (List Cell) → Tables
set_of layout tiles rows contents metadata = record {
  descriptions = set_tables layout;
  rows = λ table. cond (table_eq table tiles) rows (cond (table_eq table Images) contents (cond (table_eq table Metadata) metadata []));
}

abbrev at : ℕ → ℕ → ℕ → Cell → List Cell
at zoom column row contents = Int (pos zoom) ∷ Int (pos column) ∷ Int (pos row) ∷ contents ∷ []

abbrev named : List ℕ → List ℕ → List Cell
named name value = Text name ∷ Text value ∷ []

abbrev flat : List (List Cell) → List (List Cell) → Tables
flat rows metadata = set_of Flat Tiles rows [] metadata

abbrev normal : List (List Cell) → List (List Cell) → Tables
normal rows contents = set_of (Normalized false Hash) Map rows contents []

-- no tables
pub no_layout : state_of (record { descriptions = []; rows = λ table. [] }) ≡ Err InvalidDataFormat
no_layout = refl

-- the first of two bad rows
pub first_bad_row : state_of (flat (at 0 0 0 Null ∷ at 31 1 2 Null ∷ at 0 1 0 Null ∷ []) []) ≡ Err (InvalidTileIndex (Int (pos 31)) (Int (pos 1)) (Int (pos 2)))
first_bad_row = refl

pub text_in_place_of_bytes : state_of (flat (at 0 0 0 (Text []) ∷ []) []) ≡ Err (InvalidTileIndex (Int (pos 0)) (Int (pos 0)) (Int (pos 0)))
text_in_place_of_bytes = refl

pub below_zero : state_of (flat ((Int (negsuc 0) ∷ Other ∷ Null ∷ Null ∷ []) ∷ []) []) ≡ Err (InvalidTileIndex (Int (negsuc 0)) Other Null)
below_zero = refl

-- a name twice, and a value that is no text, before a bad row
pub name_stands_twice : state_of (flat (at 31 0 0 Null ∷ []) (named (codes "a") (codes "b") ∷ named (codes "a") (codes "c") ∷ [])) ≡ Err InvalidDataFormat
name_stands_twice = refl

pub value_of_a_kind : state_of (flat [] ((Null ∷ Int (pos 1) ∷ []) ∷ [])) ≡ Err InvalidDataFormat
value_of_a_kind = refl

-- two rows of null names stand, and a name of no algorithm comes before a bad row
pub unknown_algorithm : state_of (flat (at 31 0 0 Null ∷ []) ((Null ∷ Null ∷ []) ∷ (Null ∷ Null ∷ []) ∷ named (codes "hash_algorithm") (codes "sha1") ∷ [])) ≡ Err (UnsupportedHashAlgorithm (codes "sha1"))
unknown_algorithm = refl

-- an id of contents twice comes before a metadata value of a wrong kind
pub id_stands_twice : state_of (set_of (Normalized false Hash) Map [] ((Text (codes "A") ∷ Null ∷ []) ∷ (Text (codes "A") ∷ Null ∷ []) ∷ []) ((Null ∷ Other ∷ []) ∷ [])) ≡ Err NoUniquenessConstraint
id_stands_twice = refl

-- contents that aren't there; a row without an id is none, whatever its place
pub missing_contents : state_of (normal (at 31 5 5 Null ∷ at 0 0 0 (Text (codes "A")) ∷ []) []) ≡ Err (MissingTileReference (codes "A") Images)
missing_contents = refl

-- an id that is no text
pub id_of_a_kind : state_of (normal (at 0 0 0 (Int (pos 1)) ∷ []) []) ≡ Err InvalidDataFormat
id_of_a_kind = refl

-- no test refuses a tile of bytes, and no bytes and null
pub all_pass : first_refusal (refusals Flat (flat (at 0 0 0 (Blob (48 ∷ [])) ∷ at 1 0 0 (Blob []) ∷ at 1 1 1 Null ∷ []) [])) ≡ None
all_pass = refl
