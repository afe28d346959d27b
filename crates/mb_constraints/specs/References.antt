-- References from the places of a normalised set to its contents.
use Rattle.std.specs.Prelude.{ℕ, ◌||◌, List, [], Option, None}
use Rattle.std.specs.Fmt.{signed_decimal}
use Rattle.mb_constraints.specs.Common.{Cell, cell_at, cell_eq, contents_of, first_refused, Int, is_null, list_any, MbtError, MbtType, MissingTileReference, Normalized, Text, unless}

-- an id as text, a number in decimal
abbrev pub id_text : Cell → List ℕ
id_text (Text text) = text
id_text (Int n) = signed_decimal n
id_text _ = []

-- the refusal of a row of an id that no contents have
abbrev pub missing_reference : MbtType → List (List Cell) → List Cell → Option MbtError
missing_reference (Normalized view schema) contents row = unless (is_null (cell_at 3 row) || list_any (λ c. cell_eq (cell_at 0 c) (cell_at 3 row)) contents) (MissingTileReference (id_text (cell_at 3 row)) (contents_of schema))
missing_reference _ contents row = None

-- contents that a row names aren't there: the first such row
abbrev pub reference_missing : MbtType → List (List Cell) → List (List Cell) → Option MbtError
reference_missing layout contents rows = first_refused (missing_reference layout contents) rows
