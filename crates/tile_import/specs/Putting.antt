-- The tiles of tile entries, put one after another into a set.
use Rattle.std.specs.Prelude.{◌≡◌, ℕ, true, List, [], ◌∷◌, length, map, Some}
use Rattle.tile_import.specs.Common.{contains_key, coord_of, empty, insert, IsOnBoard, Place, place_at, TileSet}
use Rattle.pm_format.specs.declared.header.Header.{Header}
use Rattle.pm_format.specs.Directory.{Entry}
use Rattle.pm_walk.specs.Collecting.{contents_of}
pub use Rattle.pm_walk.specs.Parts.{ids_of}

-- the place of an id: that of its coordinate
abbrev pub place_of_id : ℕ → Place
place_of_id t = place_at (coord_of t)

-- a set with the same bytes at the places of ids, in order
abbrev pub with_ids : TileSet → List ℕ → List ℕ → TileSet
with_ids tiles bytes [] = tiles
with_ids tiles bytes (t ∷ ts) = with_ids (insert tiles (place_of_id t) (Some bytes)) bytes ts

-- a set with the tiles of entries, in order, of the contents beside them
abbrev pub with_contents : TileSet → List Entry → List (List ℕ) → TileSet
with_contents tiles [] cs = tiles
with_contents tiles (e ∷ es) [] = tiles
with_contents tiles (e ∷ es) (c ∷ cs) = with_contents (with_ids tiles c (ids_of e)) es cs

-- these are the tiles of entries with contents beside them
abbrev pub IsMadeOf : TileSet → List Entry → List (List ℕ) → Type 0
IsMadeOf tiles es cs = (length cs ≡ length es) × (tiles ≡ with_contents empty es cs)

-- of those that an archive has there
abbrev pub with_entries : Header → List ℕ → TileSet → List Entry → TileSet
with_entries h b tiles es = with_contents tiles es (map (contents_of h b) es)

-- all tiles are of zoom 0 to 30
abbrev pub AreOnBoard : TileSet → Type 0
AreOnBoard tiles = (p : Place) → contains_key tiles p ≡ true → IsOnBoard p
