-- The tiles and the names of a source that a copy puts into a set.
use Rattle.std.specs.Prelude.{ℕ, codes, ◌&&◌, ◌||◌, Bool, false, not, List, Option, None}
use Rattle.mb_copy.specs.Common.{Abort, bytes_eq, contains_key, CopyDuplicateMode, Dates, DuplicateValues, entries, FinMap, get, is_normalized, is_null_at, list_any, MbtError, Names, Override, Place}
use Rattle.mb_copy.specs.Common.{place_cmp, retain_keys, State, TileSet, unless}
use Rattle.mb_copy.specs.CopyWords.{copies_metadata}
use Rattle.mb_copy.specs.Target.{mode_of}
use Rattle.mb_copy.specs.Wanted.{is_chosen}
use Rattle.mb_copy.specs.declared.copier.MbtilesCopier.{MbtilesCopier}

-- the tiles that are copied
abbrev pub chosen : MbtilesCopier → TileSet → TileSet
chosen c tiles = retain_keys tiles (is_chosen c)

-- whether what is copied is put, by whether the set has something there, and whether nothing is left of it there
abbrev pub wins : CopyDuplicateMode → Bool → Bool → Bool
wins Override there nothing = there || not nothing
wins _ there nothing = not there && not nothing

-- whether a tile is put: null leaves no row in a normalised set, so that it is put only where it removes one
abbrev pub is_put : MbtilesCopier → TileSet → State → Place → Bool
is_put c tiles base p = is_chosen c p && wins (mode_of c) (contains_key base.tiles p) (is_normalized base.layout && is_null_at (get tiles p))

abbrev pub tiles_to_put : MbtilesCopier → TileSet → State → TileSet
tiles_to_put c tiles base = retain_keys tiles (is_put c tiles base)

-- and their times
abbrev pub times_to_put : MbtilesCopier → State → State → FinMap place_cmp Dates
times_to_put c source base = retain_keys source.dates (is_put c source.tiles base)

-- whether a name is copied: the algorithm of a set stays its own
abbrev pub is_copied_name : MbtilesCopier → List ℕ → Bool
is_copied_name c name = copies_metadata c.copy && not (bytes_eq name (codes "hash_algorithm"))

-- whether a name is put
abbrev pub is_put_name : MbtilesCopier → Names → List ℕ → Bool
is_put_name c base name = is_copied_name c name && wins (mode_of c) (contains_key base name) false

abbrev pub names_to_put : MbtilesCopier → Names → Names → Names
names_to_put c names base = retain_keys names (is_put_name c base)

-- whether a tile that is copied is there already, and a name
abbrev pub tile_there : MbtilesCopier → State → Place × Option (List ℕ) → Bool
tile_there c base e = is_chosen c e.0 && contains_key base.tiles e.0

abbrev pub name_there : MbtilesCopier → State → List ℕ × Option (List ℕ) → Bool
name_there c base e = is_copied_name c e.0 && contains_key base.metadata e.0

abbrev pub has_both : MbtilesCopier → TileSet → Names → State → Bool
has_both c tiles names base = list_any (tile_there c base) (entries tiles) || list_any (name_there c base) (entries names)

-- something is there already, where the mode forbids that
abbrev pub duplicates : CopyDuplicateMode → Bool → Option MbtError
duplicates Abort both = unless (not both) DuplicateValues
duplicates _ both = None
