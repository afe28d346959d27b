-- The contents of a set some of whose tiles are held whole.
use Rattle.std.specs.Prelude.{ℕ, List, [], None, Option, Some}
use Rattle.tile_streaming.specs.Common.{bytes_of, Cell, get, MbtType, option_map_or, Tables, TileSet}
use Rattle.tile_streaming.specs.Finding.{bytes_told, place_with, row_bytes}
use Rattle.tile_streaming.specs.Stored.{bytes_over, Stored}
use Rattle.tile_streaming.specs.declared.patched_set.PatchedSet.{PatchedSet}

-- the bytes of the tiles that are held whole, and of the others those that tables have
abbrev pub stored_in : PatchedSet → Tables → Stored
stored_in s t = bytes_over s.over.state.tiles (bytes_told s.marked.layout t)

-- the bytes of a tile that is held whole, none where there are none
abbrev pub held_bytes : TileSet → ℕ → List ℕ
held_bytes over id = option_map_or bytes_of (get over (place_with id)) []

-- the bytes in a row that was found, or where none is needed those that are held
abbrev pub bytes_in : PatchedSet → ℕ → Option (List Cell) → List ℕ
bytes_in s id (Some row) = row_bytes s.marked.layout row
bytes_in s id None = held_bytes s.over.state.tiles id
