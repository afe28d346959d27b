-- The columns of a table by the text that makes it.
use Rattle.std.proofs.Common.{ap, length, List, None, Ok, Option, option_map, refl, Some, subst, sym, ℕ, ◌∙◌, ◌≡◌}
use Rattle.sqlite_resolve.specs.Compile.{table_defined_by}
use Rattle.mb_tables.specs.declared.table.TableName.{TableName}
use Rattle.mb_file.specs.Columns.{AreColumns, AreColumnsBy, HasRowids, key_columns}
use Rattle.mb_file.specs.declared.columns.Columns.{Columns}
use Rattle.mb_file.specs.declared.columns.Made.{Made}

-- what is None of which something was made that is None
none_map : {X Y : Type 0} (f : X → Y) (o : Option X) → option_map f o ≡ None → o ≡ None
none_map f None e = refl
none_map f (Some x) e = absurd (let h = e in cc)

-- a table without columns of a key
no_key : (made : Made) → made.key ≡ None → key_columns made ≡ None
no_key made none = ap (λ k. key_columns (record made { key = k })) none

pub columns_made : (table : TableName) (text : List ℕ) (made : Made) (columns : Columns) → (made.key ≡ None → table_defined_by text ≡ Ok made.table) → AreColumns made.table (key_columns made) table columns
    → columns.key ≡ None → AreColumnsBy table text columns
columns_made table text made columns defined are none =
    let own : made.key ≡ None = none_map _ made.key (none_map length (key_columns made) (sym are.keyed ∙ none)) in record {
      made = made.table;
      defined = defined own;
      are = subst (λ (key : Option (List ℕ)). AreColumns made.table key table columns) (no_key made own) are;
    }

pub rowids_made : (table : TableName) (text : List ℕ) (made : Made) (columns : Columns) → (HasRowids text → made.key ≡ None) → AreColumns made.table (key_columns made) table columns → HasRowids text
    → columns.key ≡ None
rowids_made table text made columns has are own = are.keyed ∙ ap (option_map length) (no_key made (has own))
