-- The columns that a description has of those of a table, by their names and types.
use Rattle.std.specs.Prelude.{ℕ, codes, ◌==◌, ◌&&◌, ◌||◌, ◌++◌, Bool, false, cond, List, [], ◌∷◌, count_by, length}
use Rattle.mb_tables.specs.Common.{bytes_eq, list_any}
use Rattle.std.specs.Char.{to_ascii_uppercase}
use Rattle.mb_tables.specs.Schema.{column_of, coordinates}
use Rattle.mb_tables.specs.declared.column.ColumnDesc.{ColumnDesc}
use Rattle.mb_tables.specs.declared.description.TableDesc.{TableDesc}

-- whether a text begins with INT, in any case
abbrev pub begins_int : List ℕ → Bool
begins_int (a ∷ b ∷ c ∷ rest) = (to_ascii_uppercase a == 73) && (to_ascii_uppercase b == 78) && (to_ascii_uppercase c == 84)
begins_int _ = false

-- whether a text has INT in it, in any case
abbrev pub has_int : List ℕ → Bool
has_int [] = false
has_int (a ∷ rest) = begins_int (a ∷ rest) || has_int rest

-- INTEGER stands for each type text that has INT in it, and another type for itself alone
abbrev pub type_fits : List ℕ → List ℕ → Bool
type_fits wanted text = cond (bytes_eq wanted (codes "INTEGER")) (has_int text) (bytes_eq text wanted)

-- whether a column is a wanted one, by name and type
abbrev pub is_column : ColumnDesc → ColumnDesc → Bool
is_column wanted column = bytes_eq column.name wanted.name && type_fits wanted.type_name column.type_name

-- whether as many columns of a description are wanted ones as are wanted
abbrev pub fits : List ColumnDesc → TableDesc → Bool
fits wanted d = count_by (λ column. list_any (λ w. is_column w column) wanted) d.columns == length wanted

-- the columns of the tables of patches
abbrev pub patch_columns : List ColumnDesc
patch_columns = coordinates ++ column_of (codes "patch_data") (codes "BLOB") ∷ column_of (codes "tile_xxh3_64_hash") (codes "INTEGER") ∷ []
