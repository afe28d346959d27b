-- The tiles of an archive by their places.
use Rattle.std.specs.Prelude.{◌≡◌, ◌<◌, ℕ, true, List, Some}
use Rattle.tile_import.specs.Common.{contains_key, get, IsOnBoard, option_map, Place, pyramid, TileSet}
use Rattle.pm_format.specs.LookUp.{archive_map}
use Rattle.mb_lists.specs.Places.{address}

-- A set has exactly the tiles of at least one byte of an archive, each at the place of its id, and the
-- archive has none of zoom 31.
pub record HasTilesOf (b : List ℕ) (tiles : TileSet) : Type 0 where
  pub at : (p : Place) → IsOnBoard p → get tiles p ≡ option_map (λ bytes. Some bytes) (archive_map b (address p))
  pub within : (p : Place) → contains_key tiles p ≡ true → IsOnBoard p
  pub shallow : (t : ℕ) (bytes : List ℕ) → archive_map b t ≡ Some bytes → t < pyramid 31
