-- Tests over the descriptions of a set's tables.
use Rattle.std.specs.Prelude.{ℕ, codes, ◌&&◌, Bool, List, Option}
use Rattle.mb_constraints.specs.Common.{bytes_eq, InvalidDataFormat, list_any, MbtError, MbtType, NoUniquenessConstraint, tile_table, unless}
use Rattle.mb_tables.specs.Described.{is_keyed, is_table_kind}
use Rattle.mb_tables.specs.Table.{table_text}
use Rattle.mb_tables.specs.declared.description.TableDesc.{TableDesc}
use Rattle.mb_tables.specs.declared.table.TableName.TheVariants.{Metadata}

-- whether a description has a column of a name, of whatever type
abbrev pub has_column : List ℕ → TableDesc → Bool
has_column name d = list_any (λ column. bytes_eq column.name name) d.columns

-- whether a description is of a table of metadata
abbrev pub is_metadata : TableDesc → Bool
is_metadata d = bytes_eq d.name (table_text Metadata) && is_table_kind d.kind && has_column (codes "name") d && has_column (codes "value") d

-- there is no table of metadata
abbrev pub metadata_missing : List TableDesc → Option MbtError
metadata_missing ds = unless (list_any is_metadata ds) InvalidDataFormat

-- no unique index of exactly the three columns of a place keeps the places apart
abbrev pub index_missing : List TableDesc → MbtType → Option MbtError
index_missing ds layout = unless (is_keyed ds (tile_table layout)) NoUniquenessConstraint
