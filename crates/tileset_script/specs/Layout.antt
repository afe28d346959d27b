-- The layouts that a script names, and the tables that each describes.
use Rattle.std.specs.Prelude.{◌≡◌, ℕ, List, [], ◌∷◌, ◌++◌, true, false, if◌then◌else◌, Option, Some, None, Ok, Err, codes, refl}
use Rattle.tileset_script.specs.Common.{bytes_eq, Metadata, option_map, patch_columns, set_tables, table_of, Tiles}
use Rattle.mb_tables.specs.Detection.{detected, patch_type_of}
use Rattle.mb_tables.specs.PatchType.{patch_text}
use Rattle.mb_tables.specs.declared.description.TableDesc.{TableDesc}
use Rattle.mb_tables.specs.declared.description.TableKind.TheVariants.{Table}
use Rattle.mb_tables.specs.declared.error.MbtError.TheVariants.{InvalidDataFormat, NoUniquenessConstraint}
use Rattle.mb_tables.specs.declared.kind.MbtType.{MbtType}
use Rattle.mb_tables.specs.declared.kind.MbtType.TheVariants as kinds
use Rattle.mb_tables.specs.declared.kind.NormalizedSchema.TheVariants.{Hash, DedupId}
use Rattle.mb_tables.specs.declared.patch_type.PatchType.TheVariants.{BinDiffRaw}
use Rattle.tileset_script.specs.declared.layout.Layout.{Layout}
use Rattle.tileset_script.specs.declared.layout.Layout.TheVariants.{Set, FlatNoIndex, FlatBsdiff, Nothing}

-- the layouts of tile sets
abbrev pub set_named : List ℕ → Option MbtType
set_named word =
    if bytes_eq word (codes "flat") then Some kinds.Flat else
    (if bytes_eq word (codes "flat-with-hash") then Some kinds.FlatWithHash else
    (if bytes_eq word (codes "normalized") then Some (kinds.Normalized false Hash) else
    (if bytes_eq word (codes "normalized-with-view") then Some (kinds.Normalized true Hash) else
    (if bytes_eq word (codes "dedup-id") then Some (kinds.Normalized false DedupId) else
    (if bytes_eq word (codes "cache") then Some kinds.Cache else None)))))

-- these, and some that no conversion takes
abbrev pub layout_named : List ℕ → Option Layout
layout_named word =
    if bytes_eq word (codes "flat-no-index") then Some FlatNoIndex else
    (if bytes_eq word (codes "flat-bsdiff") then Some FlatBsdiff else
    (if bytes_eq word (codes "none") then Some Nothing else option_map Set (set_named word)))

-- a table without its index
abbrev pub unindexed : TableDesc → TableDesc
unindexed table = record table { indexes = [] }

-- a table of differences of tiles
abbrev pub bsdiff_table : TableDesc
bsdiff_table = record { name = patch_text BinDiffRaw; kind = Table; columns = patch_columns; indexes = [] }

-- the tables and views that a store of the layout describes
abbrev pub tables_of : Layout → List TableDesc
tables_of (Set kind) = set_tables kind
tables_of FlatNoIndex = table_of Metadata ∷ unindexed (table_of Tiles) ∷ []
tables_of FlatBsdiff = set_tables kinds.Flat ++ bsdiff_table ∷ []
tables_of Nothing = []

-- each is found as the layout whose name it has, or as none
pub flat_without_index : detected (tables_of FlatNoIndex) ≡ Err NoUniquenessConstraint
flat_without_index = refl

pub differences : patch_type_of (tables_of FlatBsdiff) ≡ Some BinDiffRaw
differences = refl

pub flat_with_differences : detected (tables_of FlatBsdiff) ≡ Ok kinds.Flat
flat_with_differences = refl

pub no_table : detected (tables_of Nothing) ≡ Err InvalidDataFormat
no_table = refl
