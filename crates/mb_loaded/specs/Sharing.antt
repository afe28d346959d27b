-- Tiles that have the same contents.
use Rattle.std.specs.Prelude.{ℕ}
use Rattle.mb_loaded.specs.Common.{Coord, MbtType, Put, StoredTile}
use Rattle.mb_loaded.specs.Edits.{dates_for}

-- a tile that is put at a coordinate with the contents at an index, in a cache without times
abbrev pub tile_with : MbtType → ℕ → Coord → StoredTile
tile_with layout i coord = record { coord = coord; contents = i; dates = dates_for layout; standing = Put }
