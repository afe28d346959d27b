-- An index of changes by table and key.
use Rattle.std.specs.Prelude.{ℕ, ◌≡◌, List, position}
use Rattle.std.specs.BTreeMap.{BTreeMap, get}
use Rattle.mb_store.specs.Common.{is_eq}
use Rattle.mb_store.specs.Changes.{AreChanges}
use Rattle.mb_store.specs.TableKey.{table_key_cmp}
use Rattle.mb_store.specs.declared.change.Change.{Change}
use Rattle.mb_store.specs.declared.table_key.TableKey.{TableKey}

-- the key of a change in its table
abbrev pub table_key_of : Change → TableKey
table_key_of c = record { table = c.table; key = c.key }

-- under each key is the place of its change
abbrev pub IsIndex : List Change → BTreeMap TableKey ℕ → Type 0
IsIndex changes places = (key : TableKey) → get table_key_cmp places key ≡ position (λ c. is_eq (table_key_cmp key (table_key_of c))) changes

-- changes with their index
pub record AreIndexed (changes : List Change) (places : BTreeMap TableKey ℕ) : Type 0 where
  pub sound : AreChanges changes
  pub index : IsIndex changes places
