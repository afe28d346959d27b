-- Other times of a tile.
use Rattle.std.specs.Prelude.{◌≡◌, ◌++◌, List, [], ◌∷◌, Option, Some, None, find, option_map, option_to_list, reverse}
use Rattle.mb_lists.specs.Entries.{newest_tiles, place_at, place_of}
use Rattle.mb_lists.specs.Keyed.{StandsAs, at_key}
use Rattle.mb_lists.specs.declared.dates.Dates.{Dates}
use Rattle.mb_lists.specs.declared.entries.Standing.TheVariants.{Put}
use Rattle.mb_lists.specs.declared.entries.StoredTile.{StoredTile}
use Rattle.mb_lists.specs.Common.{Coord, Place, place_cmp}

-- a tile with other times, if it has any; it counts as put
abbrev pub redated : Dates → StoredTile → StoredTile
redated d t = record { coord = t.coord; contents = t.contents; dates = option_map (λ old. d) t.dates; standing = Put }

-- where a tile was that is no mark, it is the latest of its place with other times; else nothing happened
abbrev pub Redates : Dates → Option StoredTile → List StoredTile → List StoredTile → Type 0
Redates d None old new = new ≡ old
Redates d (Some t) old new = StandsAs place_cmp place_of (newest_tiles (old ++ redated d t ∷ [])) new

-- the last tile at a place, a mark included
abbrev pub last_at : Place → List StoredTile → Option StoredTile
last_at q tiles = find (at_key place_cmp place_of q) (reverse tiles)

-- a tile at a coordinate that has the contents of the last one there, and other times
abbrev pub dated_as : Coord → Option Dates → StoredTile → StoredTile
dated_as coord dates t = record { coord = coord; contents = t.contents; dates = dates; standing = Put }

abbrev pub dated_last : Coord → Option Dates → List StoredTile → List StoredTile
dated_last coord dates tiles = option_to_list (option_map (dated_as coord dates) (last_at (place_at coord) tiles))
