-- Keys of rows.
use Rattle.std.specs.Prelude.{◌≡◌, pos, Bool, false, not, ◌&&◌, List, [], ◌∷◌, AllPairs}
use Rattle.mb_tables.specs.Common.{is_gt, list_any, Ordering}
use Rattle.mb_tables.specs.Cell.{cells_cmp, cells_eq, is_null}
use Rattle.mb_tables.specs.Table.{key_of}
use Rattle.mb_tables.specs.declared.cell.Cell.{Cell}
use Rattle.mb_tables.specs.declared.cell.Cell.TheVariants.{Int, Text}
use Rattle.mb_tables.specs.declared.key.RowKey.{RowKey}
use Rattle.mb_tables.specs.declared.key.RowKey.TheVariants.{Tile, TextId, IntId}
use Rattle.mb_tables.specs.declared.table.TableName.{TableName}

-- a key as cells
abbrev pub key_cells : RowKey → List Cell
key_cells (Tile zoom column row) = Int (pos zoom) ∷ Int (pos column) ∷ Int (pos row) ∷ []
key_cells (TextId text) = Text text ∷ []
key_cells (IntId id) = Int id ∷ []

-- whether a row of the table has the key
abbrev pub has_key : TableName → RowKey → List Cell → Bool
has_key table key row = cells_eq (key_of table row) (key_cells key)

-- the order of keys by their cells
abbrev pub key_cmp : RowKey → RowKey → Ordering
key_cmp k l = cells_cmp (key_cells k) (key_cells l)

-- whether two rows have one key, no cell of it Null
abbrev pub clash : TableName → List Cell → List Cell → Bool
clash table r s = cells_eq (key_of table r) (key_of table s) && not (list_any is_null (key_of table r))

-- the order of two rows by their keys
abbrev pub row_cmp : TableName → List Cell → List Cell → Ordering
row_cmp table r s = cells_cmp (key_of table r) (key_of table s)

-- no row has a greater key than a later one
abbrev pub IsInOrder : TableName → List (List Cell) → Type 0
IsInOrder table rows = AllPairs (λ r s. is_gt (row_cmp table r s) ≡ false) rows
