-- What a store tells of rows that are gathered beside the ordered sets.
use Rattle.std.specs.Prelude.{ℕ, ◌≡◌, ◌==◌, ◌&&◌, Bool, true, false, cond, List, [], AllPairs}
use Rattle.mb_store.specs.Common.{Cell, eq_by_cmp, list_any, table_eq, TableDesc, TableName, Tables}
use Rattle.mb_store.specs.ByTable.{at}
use Rattle.mb_store.specs.MemTables.{AreAllStored, MemTables}
use Rattle.mb_store.specs.Store.{IsSound}
use Rattle.mb_store.specs.StoredRow.{Stored, numbers_cells, rows_of, stored_cmp}
use Rattle.mb_store.specs.GatheredRows.{AreFirst, all_rows, has_own}
use Rattle.mb_store.specs.declared.gathered.Gathered.{Gathered}

-- the gathered rows of a table
abbrev pub gathered_at : Gathered → TableName → List Stored
gathered_at g table = cond (table_eq table g.table) g.rows.items []

-- the rows of a table, with those that are gathered
unfoldable pub told_at : MemTables → Gathered → TableName → List (List Cell)
told_at m g table = rows_of (all_rows (at m table).stored.keys (gathered_at g table))

abbrev pub told_tables : List TableDesc → MemTables → Gathered → Tables
told_tables ds m g = record { descriptions = ds; rows = told_at m g }

-- whether two keys of three numbers are equal
abbrev pub same_numbers : ℕ × ℕ × ℕ → ℕ × ℕ × ℕ → Bool
same_numbers a b = ((a.0 == b.0) && (a.1 == b.1)) && (a.2 == b.2)

-- these numbers are seen too
abbrev pub Sees : ℕ × ℕ × ℕ → List (ℕ × ℕ × ℕ) → List (ℕ × ℕ × ℕ) → Type 0
Sees numbers old new = (n : ℕ × ℕ × ℕ) → list_any (same_numbers n) new ≡ cond (same_numbers numbers n) true (list_any (same_numbers n) old)

-- no two rows have one key, and their keys are those that were seen
pub record AreSeen (g : Gathered) : Type 0 where
  pub apart : AllPairs (λ a b. eq_by_cmp stored_cmp a b ≡ false) g.rows.items
  pub seen : (n : ℕ × ℕ × ℕ) → list_any (same_numbers n) g.seen.keys ≡ has_own (numbers_cells n) g.rows.items

-- while the list is open its table's ordered set is empty
pub record AreGathered (m : MemTables) (g : Gathered) : Type 0 where
  pub rows : AreFirst g.table g.rows.items
  pub alone : g.is_open ≡ true → (at m g.table).stored.keys ≡ []
  pub seen : g.is_open ≡ true → AreSeen g

-- the tables are as a store tells them, and their rows are stored in order or gathered
pub record IsHeld (ds : List TableDesc) (m : MemTables) (g : Gathered) : Type 0 where
  pub sound : IsSound (told_tables ds m g)
  pub stored : AreAllStored m
  pub gathered : AreGathered m g
