-- Where a tile stands among those of a set, in the order of their places.
use Rattle.std.specs.Prelude.{◌≡◌, ℕ, ◌<◌, Option, Some, None, option_map, slice_get}
use Rattle.mb_access.specs.Common.{entries, get, len, Place, TileSet}

-- the index of the tile at a place; none where there is no tile
abbrev pub IsIndexOf : TileSet → Place → Option ℕ → Type 0
IsIndexOf tiles p None = get tiles p ≡ None
IsIndexOf tiles p (Some i) = (i < len tiles)
    × (slice_get (entries tiles) i ≡ option_map (λ contents. (p, contents)) (get tiles p))
