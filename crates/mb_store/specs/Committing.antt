-- What a commit makes of tables.
use Rattle.std.specs.Prelude.{◌≡◌, ◌&&◌, Bool, true, not, List, All, filter, option_to_list}
use Rattle.mb_store.specs.Common.{Cell, has_key, is_table, list_any, table_eq, TableDesc, TableName, Tables}
use Rattle.mb_store.specs.declared.change.Change.{Change}

-- each change is of a table, and not of a view
abbrev pub AreOfTables : List TableDesc → List Change → Type 0
AreOfTables ds changes = All (λ c. is_table ds c.table ≡ true) changes

-- whether a row of the table has the key of one of the changes
abbrev pub is_changed : List Change → TableName → List Cell → Bool
is_changed changes table row = list_any (λ c. table_eq c.table table && has_key table c.key row) changes

-- of each changed key only the row that is put is left, and all other rows stay, in their order
pub record CommitsTable (changes : List Change) (table : TableName) (old new : List (List Cell)) : Type 0 where
  pub changed : All (λ c. table_eq c.table table ≡ true → filter (has_key table c.key) new ≡ option_to_list c.row) changes
  pub others : filter (λ row. not (is_changed changes table row)) new ≡ filter (λ row. not (is_changed changes table row)) old

-- each table is changed so, and the descriptions stay
pub record Commits (changes : List Change) (old new : Tables) : Type 0 where
  pub descriptions : new.descriptions ≡ old.descriptions
  pub tables : (table : TableName) → CommitsTable changes table (old.rows table) (new.rows table)
