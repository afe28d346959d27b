-- What the steps of a commit make of one table's stored rows.
use Rattle.std.specs.Prelude.{ℕ, ◌≡◌, ◌≤◌, ◌&&◌, true, not, cond, nat_lt, List, [], ◌∷◌, Option, Some, None, All, drop, filter, map, option_to_list, take}
use Rattle.mb_store.specs.Common.{Cell, has_key, insert_key, key_cells, table_eq, TableName}
use Rattle.mb_store.specs.Committing.{is_changed}
use Rattle.mb_store.specs.StoredRow.{Stored, is_early, rows_of, stored_cmp}
use Rattle.mb_store.specs.TableRows.{AreStored}
use Rattle.mb_store.specs.declared.change.Change.{Change}
use Rattle.mb_store.specs.declared.table_rows.TableRows.{TableRows}

-- a row that is put, if one is, is added with a number
abbrev pub put_of : Option (List Cell) → ℕ → List Stored → List Stored
put_of None n keys = keys
put_of (Some row) n keys = insert_key stored_cmp keys (row, n)

-- so is that of a change of the table
abbrev pub with_put : TableName → Change → ℕ → List Stored → List Stored
with_put table c n keys = cond (table_eq c.table table) (put_of c.row n keys) keys

-- the rows of numbers below the first of a commit
abbrev pub early_rows : ℕ → List Stored → List Stored
early_rows start keys = filter (λ s. nat_lt s.1 start) keys

-- the rows of a change's key with other numbers
abbrev pub late_rows : TableName → ℕ → Change → List Stored → List Stored
late_rows table start c keys = filter (λ s. not (nat_lt s.1 start) && has_key table c.key s.0) keys

-- the rows of keys that no change has
abbrev pub other_rows : List Change → TableName → List Stored → List Stored
other_rows changes table keys = filter (λ s. not (is_changed changes table s.0)) keys

-- what is looked for under the keys of a table's changes
abbrev pub keys_of : TableName → List Change → List Stored
keys_of table changes = map (λ (c : Change). (key_cells c.key, 0)) (filter (λ c. table_eq c.table table) changes)

-- the early rows of each key are removed
abbrev pub removed : List Stored → ℕ → List Stored → List Stored
removed [] start keys = keys
removed (k ∷ ks) start keys = removed ks start (filter (λ s. not (is_early k.0 start s)) keys)

-- the rows that the changes put are there, each alone, beside the rows that were there before
pub record AreAdded (table : TableName) (changes : List Change) (start : ℕ) (old keys : List Stored) : Type 0 where
  pub early : early_rows start keys ≡ old
  pub others : other_rows changes table keys ≡ other_rows changes table old
  pub put : All (λ c. table_eq c.table table ≡ true → rows_of (late_rows table start c keys) ≡ option_to_list c.row) changes

-- the same while the first changes are made
pub record AreBeingAdded (table : TableName) (changes : List Change) (done : ℕ) (start : ℕ) (old : List Stored) (rows : TableRows) : Type 0 where
  pub stored : AreStored table rows
  pub later : start ≤ rows.next
  pub early : early_rows start rows.stored.keys ≡ old
  pub others : other_rows changes table rows.stored.keys ≡ other_rows changes table old
  pub put : All (λ c. table_eq c.table table ≡ true → rows_of (late_rows table start c rows.stored.keys) ≡ option_to_list c.row) (take done changes)
  pub left : All (λ c. table_eq c.table table ≡ true → late_rows table start c rows.stored.keys ≡ []) (drop done changes)
