-- The bytes of contents by the ids of their places.
use Rattle.std.specs.Prelude.{ℕ, ◌≡◌, true, List, Option, None, Some}
use Rattle.tile_streaming.specs.Common.{address, bytes_of, get, Place, TileSet}
use Rattle.tile_streaming.specs.Finding.{fits, place_with}
use Rattle.tile_streaming.specs.declared.mark.Mark.{Mark}

-- the bytes under an id, where there are contents
abbrev pub Stored : Type 0
Stored = ℕ → Option (List ℕ)

-- the bytes of each of these tiles stand under the id of its place
abbrev pub HasBytes : Stored → TileSet → Type 0
HasBytes stored tiles = (p : Place) (c : Option (List ℕ)) → get tiles p ≡ Some c → stored (address p) ≡ Some (bytes_of c)

-- bytes that fit a mark stand under its id
abbrev pub IsStored : Stored → Mark → Type 0
IsStored stored m = (bytes : List ℕ) × (stored m.id ≡ Some bytes) × (fits m bytes ≡ true)

-- the bytes of a tile, or where there is none other ones
abbrev pub over_bytes : Option (Option (List ℕ)) → Option (List ℕ) → Option (List ℕ)
over_bytes (Some c) under = Some (bytes_of c)
over_bytes None under = under

-- the bytes of these tiles, and at the other places those that stand under them
abbrev pub bytes_over : TileSet → Stored → Stored
bytes_over over under id = over_bytes (get over (place_with id)) (under id)
