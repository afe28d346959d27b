-- The rows of a table in memory.
use Rattle.std.specs.Prelude.{◌≡◌, ◌<◌, ◌^◌, Bool, List, All, length}
use Rattle.mb_store.specs.Common.{Cell, cells_eq, key_of, list_any, TableName, width}
use Rattle.mb_store.specs.StoredRow.{Stored, rows_of}
use Rattle.mb_store.specs.declared.table_rows.TableRows.{TableRows}

-- the rows, in the order of their keys
abbrev pub rows_in : TableRows → List (List Cell)
rows_in r = rows_of r.stored.keys

-- whether one of the rows has a row's key
abbrev pub has_equal : TableName → List Cell → List (List Cell) → Bool
has_equal table row rows = list_any (λ other. cells_eq (key_of table row) (key_of table other)) rows

-- each row has the table's width and came before the next number, and a count holds how many there are
pub record AreStored (table : TableName) (r : TableRows) : Type 0 where
  pub wide : All (λ (s : Stored). length s.0 ≡ width table) r.stored.keys
  pub earlier : All (λ (s : Stored). s.1 < r.next) r.stored.keys
  pub count : length r.stored.keys < 2 ^ 64
