-- Tiles of another set that are put, from the last to the first.
use Rattle.std.specs.Prelude.{ℕ, List, [], ◌∷◌, Option, Some, None}
use Rattle.mb_loaded.specs.Common.{entries, Place, TileSet}
use Rattle.mb_loaded.specs.Edits.{removed_tile, with_tile}
use Rattle.mb_loaded.specs.Held.{Held}

-- an edit for each of a list, from the last to the first
abbrev pub from_last : {A : Type 0} → (Held → A → Held) → Held → List A → Held
from_last edit h [] = h
from_last edit h (e ∷ es) = edit (from_last edit h es) e

-- a tile of a patch: bytes are put, and null clears the place
abbrev pub tile_patched : Held → Place × Option (List ℕ) → Held
tile_patched h e = by e.1
  where
    by : Option (List ℕ) → Held
    by (Some bytes) = with_tile h e.0 bytes
    by None = removed_tile h e.0

-- all tiles of another set
abbrev pub tiles_put : Held → TileSet → Held
tiles_put h tiles = from_last tile_patched h (entries tiles)
