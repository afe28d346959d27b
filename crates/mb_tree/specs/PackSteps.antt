-- Files that are read, one after another, and their tiles.
use Rattle.std.specs.Prelude.{◌≡◌, ℕ, Bool, true, false, List, Option, Some, None, All, IfSome}
use Rattle.mb_tree.specs.Common.{entries, get, Held, is_coord, MbtError, NewTile, place_in, State, with_tile}
use Rattle.mb_tree.specs.Files.{File, Files, paths_in, paths_of}
use Rattle.mb_tree.specs.Packed.{held_packed, tiles_in}
use Rattle.mb_tree.specs.Packing.{as_given, batch_of, may_pack, tile_of_file}
use Rattle.mb_tree.specs.TilePath.{tile_path}
use Rattle.mb_tree.specs.Wanting.{is_wanting}
use Rattle.mb_tree.specs.declared.scheme.TileScheme.{TileScheme}

-- a path whose numbers are a coordinate of zoom 0 to 30, where it is that of a tile
abbrev pub IsFit : List ℕ → Type 0
IsFit path = IfSome (tile_path path) (λ t. is_coord (as_given t) ≡ true)

-- a tile is put, if there is one
abbrev pub with_any : Held → Option NewTile → Held
with_any h (Some t) = with_tile h (place_in t) t.tile_data
with_any h None = h

-- the tile of a file is put, where the file is one of a tile
pub record IsRead (scheme : TileScheme) (shows : Bool) (told : Files) (path : List ℕ) (old new : Held) : Type 0 where
  pub bytes : List ℕ
  pub read : shows ≡ true → get told path ≡ Some bytes
  pub put : new ≡ with_any old (tile_of_file scheme (path, bytes))

-- the tiles of the files of paths are put
pub record AreAllRead (scheme : TileScheme) (shows : Bool) (told : Files) (paths : List (List ℕ)) (old new : Held) : Type 0 where
  pub files : List File
  pub of : paths_in files ≡ paths
  pub read : shows ≡ true → All (λ f. get told f.0 ≡ Some f.1) files
  pub put : new ≡ tiles_in old (batch_of scheme files)

-- a set with the tiles of a tree's files, which no test refuses
pub record Packs (scheme : TileScheme) (shows : Bool) (told : Files) (base packed : Held) : Type 0 where
  pub files : List File
  pub read : shows ≡ true → files ≡ entries told
  pub tested : may_pack scheme (paths_in files) base.state ≡ None
  pub value : packed ≡ held_packed scheme files base

-- a refusal of a set: the one that is due of the paths that the tree tells, and of some paths, where it tells nothing
pub record RefusesPaths (scheme : TileScheme) (shows : Bool) (told : Files) (base : State) (e : MbtError) : Type 0 where
  pub paths : List (List ℕ)
  pub listed : shows ≡ true → paths ≡ paths_of told
  pub due : is_wanting e ≡ false → may_pack scheme paths base ≡ Some e
