-- Changes of rows, one for each table and key.
use Rattle.std.specs.Prelude.{ℕ, ◌≡◌, ◌==◌, ◌&&◌, ◌++◌, Bool, true, false, List, [], ◌∷◌, Option, Some, None, All, AllPairs, length, position, set}
use Rattle.mb_store.specs.Common.{cells_eq, has_key, key_cells, option_map_or, table_eq, width}
use Rattle.mb_store.specs.declared.change.Change.{Change}

-- whether two changes are of one key of one table
abbrev pub same_key : Change → Change → Bool
same_key c d = table_eq c.table d.table && cells_eq (key_cells c.key) (key_cells d.key)

-- whether the row that is put, if one is, has the change's key and the table's width
abbrev pub is_own : Change → Bool
is_own c = option_map_or (λ row. has_key c.table c.key row && (length row == width c.table)) c.row true

-- one change for each table and key, and each row under its own key
pub record AreChanges (changes : List Change) : Type 0 where
  pub apart : AllPairs (λ c d. same_key c d ≡ false) changes
  pub own : All (λ c. is_own c ≡ true) changes

-- a later change takes the place of the one with its key
abbrev pub with_change : List Change → Change → List Change
with_change changes c = by (position (λ d. same_key d c) changes)
  where
    by : Option ℕ → List Change
    by (Some i) = set changes i c
    by None = changes ++ c ∷ []
