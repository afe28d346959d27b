-- What is kept of the rows of tiles means what the rows do.
use Rattle.std.specs.Prelude.{◌≡◌, true, List, All, filter_map, is_some}
use Rattle.mb_load.specs.Common.{by_place, Cell, dates_in, id_in, IsDated, Kept, MbtType, place_of, tile_dates, tile_id, tile_in, tile_value, tiles_held}
use Rattle.mb_lists.specs.Keyed.{entries_by}
use Rattle.mb_lists.specs.declared.entries.Content.{Content}
use Rattle.mb_lists.specs.declared.entries.StoredTile.{StoredTile}

-- tiles in the order of their rows, as loaded, each with bytes or null
pub record AreTilesOf (layout : MbtType) (ids_rows rows : List (List Cell)) (contents : List Content) (tiles : List StoredTile) : Type 0 where
  pub values : entries_by place_of (tile_value contents) tiles ≡ filter_map (tile_in layout ids_rows) rows
  pub ids : tiles_held (tile_id contents) tiles ≡ by_place (id_in layout) rows
  pub times : tiles_held tile_dates tiles ≡ by_place (dates_in layout) rows
  pub whole : All (λ t. is_some (tile_value contents t) ≡ true) tiles
  pub kept : All (λ t. t.standing ≡ Kept) tiles
  pub dated : All (IsDated layout) tiles
