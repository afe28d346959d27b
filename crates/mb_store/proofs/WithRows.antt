-- The rows of one table beside those of the others.
use Rattle.mb_store.proofs.Common.{ap, Bool, Cell, cond, false, List, refl, same_table, subst, sym, table_eq, table_eq-refl, TableName, true, with_rows, ◌≡◌}

-- what holds of one table's new rows, and of each table's rows, holds with the new rows in place
pub with_rows-holds : (P : TableName → List (List Cell) → Type 0) (rows : TableName → List (List Cell)) (table : TableName) (new : List (List Cell)) → P table new → ((u : TableName) → P u (rows u)) → (u : TableName) → P u (with_rows rows table new u)
with_rows-holds P rows table new here all u = by (table_eq u table) refl
  where
    by : (b : Bool) → table_eq u table ≡ b → P u (cond b new (rows u))
    by true e = subst (λ t. P t new) (sym (same_table u table e)) here
    by false e = all u

-- the table's own rows are the new ones
pub with_rows-own : (rows : TableName → List (List Cell)) (table : TableName) (new : List (List Cell)) → with_rows rows table new table ≡ new
with_rows-own rows table new = ap (λ b. cond b new (rows table)) (table_eq-refl table)
