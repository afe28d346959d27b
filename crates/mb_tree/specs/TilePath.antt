-- The paths of the files of tiles.
use Rattle.std.specs.Prelude.{◌≡◌, codes, List, ℕ, Option, Some, None, option_and_then, option_map, unwrap_or, refl}
use Rattle.mb_tree.specs.Common.{dot, number_within, rsplit_once, slash}
use Rattle.mb_tree.specs.Format.{format_of}
use Rattle.mb_tree.specs.declared.format.FileFormat.{FileFormat}
use Rattle.mb_tree.specs.declared.format.FileFormat.TheVariants.{Pbf}
use Rattle.mb_tree.specs.declared.tile_path.TilePath.{TilePath}

-- what stands behind the last slash, or all where there is none
abbrev pub last_part : List ℕ → List ℕ
last_part path = unwrap_or (option_map (λ split. split.1) (rsplit_once slash path)) path

-- what stands before the last dot, or all where there is none
abbrev pub stem : List ℕ → List ℕ
stem name = unwrap_or (option_map (λ split. split.0) (rsplit_once dot name)) name

-- the format that the extension names: what stands behind the last dot. None where there is no dot
abbrev pub format_in : List ℕ → Option FileFormat
format_in name = option_and_then (λ split. format_of split.1) (rsplit_once dot name)

-- a zoom, a column, and a row with an extension or without
abbrev pub tile_named : List ℕ → List ℕ → List ℕ → Option TilePath
tile_named zoom column name =
    option_and_then (λ z. option_and_then (λ x. option_map (λ y. record { zoom = z; column = x; row = y; format = format_in name })
    (number_within 32 (stem name))) (number_within 32 column)) (number_within 8 zoom)

-- the path of the file of a tile: its last three parts are those of a tile, whatever stands before them
unfoldable pub tile_path : List ℕ → Option TilePath
tile_path path = option_and_then (λ name. option_and_then (λ column. tile_named (last_part column.0) column.1 name.1) (rsplit_once slash name.0)) (rsplit_once slash path)

pub behind_a_folder : tile_path (codes "any/3/4/5.pbf") ≡ Some (record { zoom = 3; column = 4; row = 5; format = Some Pbf })
unfolding tile_path rsplit_once number_within format_of
behind_a_folder = refl

pub too_deep : tile_path (codes "999/4/5.png") ≡ None
unfolding tile_path rsplit_once number_within
too_deep = refl

pub no_number : tile_path (codes "z/4/5.png") ≡ None
unfolding tile_path rsplit_once number_within
no_number = refl

pub one_part : tile_path (codes "5.png") ≡ None
unfolding tile_path rsplit_once
one_part = refl

pub two_dots : tile_path (codes "3/4/5.6.png") ≡ None
unfolding tile_path rsplit_once number_within
two_dots = refl

pub no_extension : tile_path (codes "3/4/+05") ≡ Some (record { zoom = 3; column = 4; row = 5; format = None })
unfolding tile_path rsplit_once number_within
no_extension = refl

pub empty_part : tile_path (codes "3//4/5.png") ≡ None
unfolding tile_path rsplit_once number_within
empty_part = refl
