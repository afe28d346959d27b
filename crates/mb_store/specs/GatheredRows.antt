-- Rows that are put into a table's ordered rows.
use Rattle.std.specs.Prelude.{◌≡◌, Bool, List, [], ◌∷◌, All, length}
use Rattle.mb_store.specs.Common.{Cell, cells_eq, insert_key, list_any, TableName, width}
use Rattle.mb_store.specs.StoredRow.{Stored, own_key, stored_cmp}

-- each goes to its place beside those that there are, the last first
abbrev pub all_rows : List Stored → List Stored → List Stored
all_rows keys [] = keys
all_rows keys (x ∷ xs) = insert_key stored_cmp (all_rows keys xs) x

-- rows of one table, each with the number 0
pub record AreFirst (table : TableName) (rows : List Stored) : Type 0 where
  pub wide : All (λ (s : Stored). length s.0 ≡ width table) rows
  pub first : All (λ (s : Stored). s.1 ≡ 0) rows

-- whether one of the rows has a key
abbrev pub has_own : List Cell → List Stored → Bool
has_own key rows = list_any (λ (s : Stored). cells_eq key (own_key s.0)) rows
