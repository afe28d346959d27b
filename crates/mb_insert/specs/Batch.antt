-- The tiles of a batch, and which of them are put into a set.
use Rattle.std.specs.Prelude.{ℕ, ◌^◌, ◌&&◌, ◌||◌, Bool, not, nat_lt, List, Option, Some, filter, map, reverse}
use Rattle.mb_insert.specs.Common.{contains_key, from_entries, Place, place_at, place_cmp, TileSet}
use Rattle.std.specs.List.{list_any}
use Rattle.mb_insert.specs.declared.mode.CopyDuplicateMode.{CopyDuplicateMode}
use Rattle.mb_insert.specs.declared.mode.CopyDuplicateMode.TheVariants.{Override}
use Rattle.mb_insert.specs.declared.new_tile.NewTile.{NewTile}
use Rattle.mb_lists.specs.Keyed.{are_distinct}

-- whether the numbers of a tile are a coordinate of zoom 0 to 30
abbrev pub is_coord : NewTile → Bool
is_coord t = nat_lt t.z 31 && nat_lt t.x (2 ^ t.z) && nat_lt t.y (2 ^ t.z)

-- its place: the row of a place is counted from the bottom
abbrev pub place_in : NewTile → Place
place_in t = place_at (record { z = t.z; x = t.x; y = t.y })

-- its bytes at its place
abbrev pub entry_of : NewTile → Place × Option (List ℕ)
entry_of t = (place_in t, Some t.tile_data)

-- whether a set has no tile at its place, and no null
abbrev pub is_missing : TileSet → NewTile → Bool
is_missing tiles t = not (contains_key tiles (place_in t))

-- the tiles that a mode puts into a set, where the first of a place counts: all from the last to the first, or those of
-- places at which the set has none
abbrev pub chosen : CopyDuplicateMode → TileSet → List NewTile → List NewTile
chosen Override tiles batch = reverse batch
chosen _ tiles batch = filter (is_missing tiles) batch

-- the same by places
abbrev pub put_of : CopyDuplicateMode → TileSet → List NewTile → TileSet
put_of mode tiles batch = from_entries (map entry_of (chosen mode tiles batch))

-- whether a place of a batch is in the set, or twice in the batch
abbrev pub has_duplicates : TileSet → List NewTile → Bool
has_duplicates tiles batch = list_any (λ t. contains_key tiles (place_in t)) batch || not (are_distinct place_cmp (map place_in batch))
