-- Scripts, and bad lines.
use Rattle.std.specs.Prelude.{◌≡◌, List, [], ◌∷◌, map, Option, Some, None, Result, Ok, Err, ℕ, codes, pos, refl}
use Rattle.tileset_script.specs.Common.{Blob, Cell, decode_pairs, Int, lines_of, Metadata, no_rows, Null, Other, parted, TableName, Tiles}
use Rattle.mb_tables.specs.declared.kind.MbtType.TheVariants as kinds
use Rattle.pm_format.specs.declared.tile_type.TileType.TheVariants.{Png}
use Rattle.tileset_script.specs.Layout.{tables_of}
use Rattle.tileset_script.specs.Script.{Script, line_of, script_of}
use Rattle.tileset_script.specs.Setting.{options_of}
use Rattle.tileset_script.specs.declared.layout.Layout.TheVariants.{Set}
use Rattle.tileset_script.specs.declared.script.setting.Setting.TheVariants as settings

-- the rows that the base, or the patch behind so many others, has in a table
abbrev base_rows : TableName → Result Script ℕ → Option (List (List Cell))
base_rows table (Ok s) = Some (s.base.rows table)
base_rows table (Err n) = None

abbrev patch_rows : TableName → Result Script ℕ → Option (List (List (List Cell)))
patch_rows table (Ok s) = Some (map (λ t. t.rows table) s.patches)
patch_rows table (Err n) = None

-- a row of the first tile, with these contents
abbrev first_tile : Cell → List Cell
first_tile contents = Int (pos 0) ∷ Int (pos 0) ∷ Int (pos 0) ∷ contents ∷ []

pub no_line : script_of [] ≡ Err 1
unfolding script_of lines_of parted
no_line = refl

pub empty_set : script_of (codes "base flat\nquery 0 0 0\n") ≡ Ok (record { options = options_of []; base = no_rows (tables_of (Set kinds.Flat)); patches = []; queries = record { z = 0; x = 0; y = 0 } ∷ [] })
unfolding script_of lines_of line_of parted
empty_set = refl

pub one_tile : base_rows Tiles (script_of (codes "base flat\nrow tiles i0 i0 i0 x30\nquery 0 0 0\n")) ≡ Some (first_tile (Blob (48 ∷ [])) ∷ [])
unfolding script_of lines_of line_of parted decode_pairs
one_tile = refl

-- rows stand by their keys, in whatever order they come
pub empty_and_null_tiles : base_rows Tiles (script_of (codes "base flat\nrow tiles i1 i0 i0 n\n\n# the first zoom\nrow tiles i0 i0 i0 x")) ≡ Some (first_tile (Blob []) ∷ (Int (pos 1) ∷ Int (pos 0) ∷ Int (pos 0) ∷ Null ∷ []) ∷ [])
unfolding script_of lines_of line_of parted decode_pairs
empty_and_null_tiles = refl

-- what no tile can be is a row all the same, which loading refuses
pub zoom_of_archives_alone : base_rows Tiles (script_of (codes "base flat\nrow tiles i31 n i0 o\n")) ≡ Some ((Int (pos 31) ∷ Null ∷ Int (pos 0) ∷ Other ∷ []) ∷ [])
unfolding script_of lines_of line_of parted
zoom_of_archives_alone = refl

pub metadata_row : base_rows Metadata (script_of (codes "base none\npatch flat")) ≡ Some []
unfolding script_of lines_of line_of parted
metadata_row = refl

pub patches_in_order : patch_rows Metadata (script_of (codes "base none\npatch flat\nrow metadata i5 n\npatch cache\npatch flat\nrow metadata i5 i1\n")) ≡ Some (((Int (pos 5) ∷ Null ∷ []) ∷ []) ∷ [] ∷ ((Int (pos 5) ∷ Int (pos 1) ∷ []) ∷ []) ∷ [])
unfolding script_of lines_of line_of parted
patches_in_order = refl

pub flags_and_type : script_of (codes "option verify\noption type png\nbase none") ≡ Ok (record { options = options_of (settings.Verify ∷ settings.TileType Png ∷ []); base = no_rows []; patches = []; queries = [] })
unfolding script_of lines_of line_of parted
flags_and_type = refl

pub cell_missing : script_of (codes "base flat\nrow tiles i0 i0 i0") ≡ Err 2
unfolding script_of lines_of line_of parted
cell_missing = refl

pub cell_too_many : script_of (codes "base flat\nrow metadata n n n") ≡ Err 2
unfolding script_of lines_of line_of parted
cell_too_many = refl

pub row_twice : script_of (codes "base flat\nrow tiles i0 i0 i0 x30\nrow tiles i0 i0 i0 x30\n") ≡ Err 3
unfolding script_of lines_of line_of parted decode_pairs
row_twice = refl

-- a row with a null in its key repeats none, and neither does one of a table without an index
pub null_key_twice : base_rows Metadata (script_of (codes "base flat\nrow metadata n i1\nrow metadata n i1\n")) ≡ Some ((Null ∷ Int (pos 1) ∷ []) ∷ (Null ∷ Int (pos 1) ∷ []) ∷ [])
unfolding script_of lines_of line_of parted
null_key_twice = refl

pub no_index : base_rows Tiles (script_of (codes "base flat-no-index\nrow tiles i0 i0 i0 n\nrow tiles i0 i0 i0 n\n")) ≡ Some (first_tile Null ∷ first_tile Null ∷ [])
unfolding script_of lines_of line_of parted
no_index = refl

pub other_key_twice : script_of (codes "base flat\nrow metadata o i1\nrow metadata o i2\n") ≡ Err 3
unfolding script_of lines_of line_of parted
other_key_twice = refl

-- keys repeat only in one store
pub same_key_in_patch : patch_rows Metadata (script_of (codes "base flat\nrow metadata i5 n\npatch flat\nrow metadata i5 n\n")) ≡ Some (((Int (pos 5) ∷ Null ∷ []) ∷ []) ∷ [])
unfolding script_of lines_of line_of parted
same_key_in_patch = refl

-- `tiles` is a view there
pub row_of_a_view : script_of (codes "base cache\nrow tiles i0 i0 i0 n\n") ≡ Err 2
unfolding script_of lines_of line_of parted
row_of_a_view = refl

pub row_of_differences : script_of (codes "base flat-bsdiff\nrow bsdiffraw i0 i0 i0 x i0\n") ≡ Err 2
unfolding script_of lines_of line_of parted decode_pairs
row_of_differences = refl

pub row_after_query : script_of (codes "base flat\nquery 0 0 0\nrow tiles i0 i0 i0 n\n") ≡ Err 3
unfolding script_of lines_of line_of parted
row_after_query = refl

pub patch_after_query : script_of (codes "base flat\nquery 0 0 0\npatch flat\n") ≡ Err 3
unfolding script_of lines_of line_of parted
patch_after_query = refl

pub patch_first : script_of (codes "patch flat\n") ≡ Err 1
unfolding script_of lines_of line_of parted
patch_first = refl

pub second_base : script_of (codes "base flat\npatch flat\nbase flat\n") ≡ Err 3
unfolding script_of lines_of line_of parted
second_base = refl

pub no_base_line : script_of (codes "# none\noption min-zoom 1\n") ≡ Err 3
unfolding script_of lines_of line_of parted
no_base_line = refl
