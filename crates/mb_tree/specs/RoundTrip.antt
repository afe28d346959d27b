-- The files of a tree's tiles as they are unpacked again.
use Rattle.std.specs.Prelude.{◌≡◌, ℕ, codes, Bool, true, List, Option, Some, None, IfOk, filter_map, is_some, option_and_then, option_map, refl}
use Rattle.mb_tree.specs.Common.{digits, empty, entries, get, number_within, rsplit_once, Tables}
use Rattle.mb_tree.specs.Base.{base_of}
use Rattle.mb_tree.specs.Files.{File, Files}
use Rattle.mb_tree.specs.Format.{format_of}
use Rattle.mb_tree.specs.Scheme.{turned}
use Rattle.mb_tree.specs.TilePath.{tile_path}
use Rattle.mb_tree.specs.Unpacked.{path_text}
use Rattle.mb_tree.specs.declared.scheme.TileScheme.{TileScheme}
use Rattle.mb_tree.specs.declared.tile_path.TilePath.{TilePath}

-- the path of a tile in plain spelling: its last three parts, the numbers without a plus or zeros in front, and the
-- word of its format. None where there is no format
abbrev pub plain_of : TilePath → Option (List ℕ)
plain_of t = option_map (λ format. path_text format t.zoom t.column t.row) t.format

abbrev pub plain_path : List ℕ → Option (List ℕ)
plain_path path = option_and_then plain_of (tile_path path)

-- whether a path is that of a tile, and whether it is spelled plainly, if it is one
abbrev pub is_tile : List ℕ → Bool
is_tile path = is_some (tile_path path)

abbrev pub IsPlain : List ℕ → Type 0
IsPlain path = is_tile path ≡ true → plain_path path ≡ Some path

-- the file of a tile under its plain path; files of other paths have none
abbrev pub plain_file : File → Option File
plain_file f = option_map (λ path. (path, f.1)) (plain_path f.0)

-- those of a tree, in the order of its own paths
abbrev pub plain_files : Files → List File
plain_files tree = filter_map plain_file (entries tree)

-- the path of a tile of one scheme as another one counts its row, and the files of a tree under these paths
abbrev pub path_under : TileScheme → TileScheme → TilePath → Option (List ℕ)
path_under scheme other t = option_map (λ format. path_text format t.zoom t.column (turned other t.zoom (turned scheme t.zoom t.row))) t.format

abbrev pub file_under : TileScheme → TileScheme → File → Option File
file_under scheme other f = option_map (λ path. (path, f.1)) (option_and_then (path_under scheme other) (tile_path f.0))

abbrev pub files_under : TileScheme → TileScheme → Files → List File
files_under scheme other tree = filter_map (file_under scheme other) (entries tree)

-- a tree has the file of each tile of another one under its plain path, with its bytes, and no other file
pub record HasTileFiles (tree made : Files) : Type 0 where
  pub each : (source path bytes : List ℕ) → get tree source ≡ Some bytes → plain_path source ≡ Some path → get made path ≡ Some bytes
  pub only : (path bytes : List ℕ) → get made path ≡ Some bytes → (source : List ℕ) × (get tree source ≡ Some bytes) × (plain_path source ≡ Some path)

-- tables into which tiles are packed as into a set without tiles
abbrev pub HasNoTiles : Tables → Type 0
HasNoTiles t = IfOk (base_of t) (λ base. base.tiles ≡ empty)

pub plain : plain_path (codes "3/4/5.png") ≡ Some (codes "3/4/5.png")
unfolding tile_path rsplit_once number_within format_of digits
plain = refl

pub behind_folders : plain_path (codes "some/folder/3/4/5.png") ≡ Some (codes "3/4/5.png")
unfolding tile_path rsplit_once number_within format_of digits
behind_folders = refl

pub otherwise_spelled : plain_path (codes "+3/04/5.JPEG") ≡ Some (codes "3/4/5.jpg")
unfolding tile_path rsplit_once number_within format_of digits
otherwise_spelled = refl

pub no_tile : plain_path (codes "3/4/readme.txt") ≡ None
unfolding tile_path rsplit_once number_within
no_tile = refl
