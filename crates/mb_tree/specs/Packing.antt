-- Which tiles the files of a tree are, and what is refused of them.
use Rattle.std.specs.Prelude.{ℕ, List, [], ◌∷◌, Option, Some, None, Result, filter_map, is_some, map, option_and_then, option_map}
use Rattle.mb_constraints.specs.DiffHashes.{refused_by}
use Rattle.mb_tree.specs.Common.{Abort, bad_coord, duplicates, first_refusal, first_refused, InconsistentTileFormats, MbtError, NewTile, State, unless, UnsupportedFileExtension}
use Rattle.mb_tree.specs.Files.{File}
use Rattle.mb_tree.specs.Format.{same_format}
use Rattle.mb_tree.specs.Scheme.{turned}
use Rattle.mb_tree.specs.TilePath.{tile_path}
use Rattle.mb_tree.specs.declared.format.FileFormat.{FileFormat}
use Rattle.mb_tree.specs.declared.scheme.TileScheme.{TileScheme}
use Rattle.mb_tree.specs.declared.tile_path.TilePath.{TilePath}

-- the tile of a batch, whose row is counted from the top
abbrev pub new_tile : TileScheme → List ℕ → TilePath → NewTile
new_tile scheme bytes t = record { z = t.zoom; x = t.column; y = turned scheme t.zoom t.row; tile_data = bytes }

-- the tiles of files, in the order of the files; files of other paths are passed over
abbrev pub tile_of_file : TileScheme → File → Option NewTile
tile_of_file scheme f = option_map (new_tile scheme f.1) (tile_path f.0)

abbrev pub batch_of : TileScheme → List File → List NewTile
batch_of scheme files = filter_map (tile_of_file scheme) files

-- files of which the paths alone are known
abbrev pub empty_files : List (List ℕ) → List File
empty_files paths = map (λ path. (path, [])) paths

-- the format of the first path of a tile
abbrev pub format_or : Option TilePath → Option FileFormat → Option FileFormat
format_or (Some t) others = t.format
format_or None others = others

abbrev pub first_format : List (List ℕ) → Option FileFormat
first_format [] = None
first_format (path ∷ paths) = format_or (tile_path path) (first_format paths)

-- the numbers of a path, the row as it is given
abbrev pub as_given : TilePath → NewTile
as_given t = record { z = t.zoom; x = t.column; y = t.row; tile_data = [] }

-- the refusal of each test of a tile's path, in the order of the tests: an extension that names no format, another
-- format than the first one, and numbers that are no coordinate of zoom 0 to 30
abbrev pub tile_refusals : Option FileFormat → List ℕ → TilePath → List (Option MbtError)
tile_refusals first path t =
    unless (is_some t.format) (UnsupportedFileExtension path)
    ∷ unless (same_format first t.format) (InconsistentTileFormats path)
    ∷ bad_coord (as_given t)
    ∷ []

-- the first of them; other paths aren't refused
abbrev pub path_refused : Option FileFormat → List ℕ → Option MbtError
path_refused first path = option_and_then (λ t. first_refusal (tile_refusals first path t)) (tile_path path)

-- the refusal of the first path that is refused, and then of tiles that the set has or that come twice
abbrev pub pack_refusals : TileScheme → List (List ℕ) → State → List (Option MbtError)
pack_refusals scheme paths s =
    first_refused (path_refused (first_format paths)) paths
    ∷ duplicates Abort s.tiles (batch_of scheme (empty_files paths))
    ∷ []

-- the first refusal, if there is one
abbrev pub may_pack : TileScheme → List (List ℕ) → State → Option MbtError
may_pack scheme paths s = first_refusal (pack_refusals scheme paths s)

-- the answer that is due of a set
abbrev pub packing : TileScheme → List (List ℕ) → State → Result (Unit {0}) MbtError
packing scheme paths s = refused_by (may_pack scheme paths s)
