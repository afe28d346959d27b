-- The layouts of a few lists of descriptions.
use Rattle.std.specs.Prelude.{◌≡◌, refl, codes, true, false, [], ◌∷◌, Some, None, Ok, Err}
use Rattle.mb_tables.specs.Columns.{has_int, is_column, patch_columns}
use Rattle.mb_tables.specs.Detection.{detected, missing_index, patch_type_of}
use Rattle.mb_tables.specs.PatchType.{patch_text}
use Rattle.mb_tables.specs.Schema.{column_of, columns_of, set_tables, view_of}
use Rattle.mb_tables.specs.Table.{key_columns, table_text}
use Rattle.mb_tables.specs.declared.description.TableDesc.{TableDesc}
use Rattle.mb_tables.specs.declared.description.TableKind.TheVariants.{Table, View}
use Rattle.mb_tables.specs.declared.error.MbtError.TheVariants.{InvalidDataFormat, NoUniquenessConstraint}
use Rattle.mb_tables.specs.declared.kind.MbtType.TheVariants.{Flat, FlatWithHash, Normalized, Cache}
use Rattle.mb_tables.specs.declared.kind.NormalizedSchema.TheVariants.{Hash, DedupId}
use Rattle.mb_tables.specs.declared.patch_type.PatchType.TheVariants.{BinDiffRaw}
use Rattle.mb_tables.specs.declared.table.TableName.TheVariants.{Tiles}

-- each layout is found by its own tables
flat : detected (set_tables Flat) ≡ Ok Flat
flat = refl

flat_with_hash : detected (set_tables FlatWithHash) ≡ Ok FlatWithHash
flat_with_hash = refl

normalized : detected (set_tables (Normalized false Hash)) ≡ Ok (Normalized false Hash)
normalized = refl

normalized_with_view : detected (set_tables (Normalized true Hash)) ≡ Ok (Normalized true Hash)
normalized_with_view = refl

dedup_id : detected (set_tables (Normalized false DedupId)) ≡ Ok (Normalized false DedupId)
dedup_id = refl

cache : detected (set_tables Cache) ≡ Ok Cache
cache = refl

nothing : detected [] ≡ Err InvalidDataFormat
nothing = refl

-- a type with INT in it stands for INTEGER, and TEXT for itself alone
int : has_int (codes "unsigned Big Int") ≡ true
int = refl

no_int : has_int (codes "IN TEGER") ≡ false
no_int = refl

lower : is_column (column_of (codes "tile_id") (codes "TEXT")) (column_of (codes "tile_id") (codes "text")) ≡ false
lower = refl

abbrev bare : TableDesc
bare = record { name = table_text Tiles; kind = Table; columns = columns_of Tiles; indexes = record { unique = false; columns = codes "name" ∷ key_columns Tiles } ∷ [] }

no_index : detected (bare ∷ []) ≡ Err NoUniquenessConstraint
no_index = refl

wide_index : missing_index (bare ∷ []) Flat ≡ None
wide_index = refl

no_table : detected (view_of Tiles ∷ []) ≡ Err InvalidDataFormat
no_table = refl

patches : patch_type_of (record { name = patch_text BinDiffRaw; kind = View; columns = patch_columns; indexes = [] } ∷ []) ≡ Some BinDiffRaw
patches = refl
