-- The rows of contents of a normalised set, and their ids.
use Rattle.std.specs.Prelude.{Bool, not, cond, List, [], Option, Some, None, map, filter, filter_map}
use Rattle.mb_lists.specs.Common.{Cell, cell_at, cell_cmp, FinMap, from_entries, is_null, MbtError, MbtType, Normalized, NoUniquenessConstraint, unless}
use Rattle.mb_lists.specs.Keyed.{are_distinct}
use Rattle.mb_tables.specs.Table.{Tables}
use Rattle.mb_tables.specs.Kind.{contents_of}

-- the rows of contents by id. The other layouts have none
abbrev pub content_rows : MbtType → Tables → List (List Cell)
content_rows (Normalized view schema) t = t.rows (contents_of schema)
content_rows _ t = []

-- whether no cell but Null stands twice in a list
abbrev pub are_apart : List Cell → Bool
are_apart cells = are_distinct cell_cmp (filter (λ c. not (is_null c)) cells)

-- the first cells of rows
abbrev pub fronts : List (List Cell) → List Cell
fronts rows = map (cell_at 0) rows

-- an id of contents stands twice
abbrev pub id_twice : List (List Cell) → Option MbtError
id_twice contents = unless (are_apart (fronts contents)) NoUniquenessConstraint

-- the contents under an id; a row of a null id has none
abbrev pub content_entry : List Cell → Option (Cell × Cell)
content_entry row = cond (is_null (cell_at 0 row)) None (Some (cell_at 0 row, cell_at 1 row))

-- contents by id
abbrev pub Contents : Type 0
Contents = FinMap cell_cmp Cell

abbrev pub contents_by_id : List (List Cell) → Contents
contents_by_id contents = from_entries (filter_map content_entry contents)
