-- What descriptions say of a table.
use Rattle.std.specs.Prelude.{ℕ, Bool, true, false, not, ◌&&◌, List, [], ◌∷◌}
use Rattle.mb_tables.specs.Common.{bytes_eq, list_all, list_any}
use Rattle.mb_tables.specs.Table.{key_columns, table_text}
use Rattle.mb_tables.specs.declared.description.TableDesc.{TableDesc}
use Rattle.mb_tables.specs.declared.description.TableKind.{TableKind}
use Rattle.mb_tables.specs.declared.description.TableKind.TheVariants.{Table, View}
use Rattle.mb_tables.specs.declared.index.IndexDesc.{IndexDesc}
use Rattle.mb_tables.specs.declared.table.TableName.{TableName}

abbrev pub is_table_kind : TableKind → Bool
is_table_kind Table = true
is_table_kind View = false

-- whether the table is described as a table
abbrev pub is_table : List TableDesc → TableName → Bool
is_table ds table = list_any (λ d. bytes_eq d.name (table_text table) && is_table_kind d.kind) ds

-- whether texts have each of the wanted ones among them
abbrev pub has_each : List (List ℕ) → List (List ℕ) → Bool
has_each texts wanted = list_all (λ w. list_any (bytes_eq w) texts) wanted

-- whether two lists of texts have the same members
abbrev pub same_texts : List (List ℕ) → List (List ℕ) → Bool
same_texts xs ys = has_each ys xs && has_each xs ys

-- whether an index keeps equal keys of the table out: it is unique, and of exactly the key's columns
abbrev pub is_key_index : TableName → IndexDesc → Bool
is_key_index table i = i.unique && same_texts i.columns (key_columns table)

-- whether the table is described with such an index
abbrev pub is_keyed : List TableDesc → TableName → Bool
is_keyed ds table = list_any (λ d. bytes_eq d.name (table_text table) && list_any (is_key_index table) d.indexes) ds

-- no two tables or views have one name
abbrev pub names_apart : List TableDesc → Bool
names_apart [] = true
names_apart (d ∷ ds) = not (list_any (λ e. bytes_eq d.name e.name) ds) && names_apart ds
