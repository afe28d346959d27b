-- The layout of a tile set, from the descriptions of its tables.
use Rattle.std.specs.Prelude.{ℕ, ◌&&◌, Bool, false, cond, List, Option, Some, None, Result, Ok, Err}
use Rattle.mb_tables.specs.Common.{bytes_eq, list_any}
use Rattle.mb_tables.specs.Columns.{fits, patch_columns}
use Rattle.mb_tables.specs.Schema.{columns_of}
use Rattle.mb_tables.specs.Described.{has_each, is_keyed, is_table_kind}
use Rattle.mb_tables.specs.Kind.{tile_table}
use Rattle.mb_tables.specs.PatchType.{patch_text}
use Rattle.mb_tables.specs.Table.{key_columns, table_text}
use Rattle.mb_tables.specs.declared.description.TableDesc.{TableDesc}
use Rattle.mb_tables.specs.declared.error.MbtError.{MbtError}
use Rattle.mb_tables.specs.declared.error.MbtError.TheVariants.{InvalidDataFormat, NoUniquenessConstraint}
use Rattle.mb_tables.specs.declared.kind.MbtType.{MbtType}
use Rattle.mb_tables.specs.declared.kind.MbtType.TheVariants.{Flat, FlatWithHash, Normalized, Cache}
use Rattle.mb_tables.specs.declared.kind.NormalizedSchema.TheVariants.{Hash, DedupId}
use Rattle.mb_tables.specs.declared.patch_type.PatchType.{PatchType}
use Rattle.mb_tables.specs.declared.patch_type.PatchType.TheVariants.{BinDiffGz, BinDiffRaw}
use Rattle.mb_tables.specs.declared.table.TableName.{TableName}
use Rattle.mb_tables.specs.declared.table.TableName.TheVariants.{Tiles, TilesWithHash, Map, Images, TilesShallow, TilesData, TileCache}

-- whether a table, or a view, of the name is described with its columns
abbrev pub has_columns : List TableDesc → TableName → Bool
has_columns ds table = list_any (λ d. bytes_eq d.name (table_text table) && fits (columns_of table) d) ds

-- whether it is described so as a table
abbrev pub has_table : List TableDesc → TableName → Bool
has_table ds table = list_any (λ d. bytes_eq d.name (table_text table) && is_table_kind d.kind && fits (columns_of table) d) ds

-- the first layout whose tables are described
abbrev pub layout_of : List TableDesc → Option MbtType
layout_of ds =
    cond (has_table ds Map && has_table ds Images) (Some (Normalized (has_columns ds TilesWithHash) Hash))
    (cond (has_table ds TilesShallow && has_table ds TilesData) (Some (Normalized false DedupId))
    (cond (has_table ds TilesWithHash) (Some FlatWithHash)
    (cond (has_table ds Tiles) (Some Flat)
    (cond (has_table ds TileCache) (Some Cache) None))))

-- the layout, where a unique index of exactly the columns of a place keeps its places apart
abbrev pub detected : List TableDesc → Result MbtType MbtError
detected ds = by (layout_of ds)
  where
    by : Option MbtType → Result MbtType MbtError
    by None = Err InvalidDataFormat
    by (Some layout) = cond (is_keyed ds (tile_table layout)) (Ok layout) (Err NoUniquenessConstraint)

-- whether an index of the table, unique or not, has the columns of a place among its own
abbrev pub has_tile_index : List TableDesc → TableName → Bool
has_tile_index ds table = list_any (λ d. bytes_eq d.name (table_text table) && list_any (λ i. has_each i.columns (key_columns Tiles)) d.indexes) ds

-- the name of a layout's tile table, where it has no such index
abbrev pub missing_index : List TableDesc → MbtType → Option (List ℕ)
missing_index ds layout = cond (has_tile_index ds (tile_table layout)) None (Some (table_text (tile_table layout)))

abbrev pub has_patches : List TableDesc → PatchType → Bool
has_patches ds patch_type = list_any (λ d. bytes_eq d.name (patch_text patch_type) && fits patch_columns d) ds

-- the kind of a patch, by the table or view that it describes
abbrev pub patch_type_of : List TableDesc → Option PatchType
patch_type_of ds = cond (has_patches ds BinDiffRaw) (Some BinDiffRaw) (cond (has_patches ds BinDiffGz) (Some BinDiffGz) None)
