-- What tables hold after tiles were put into the set that they held.
use Rattle.std.specs.Prelude.{ℕ, ◌≡◌, ◌&&◌, ◌||◌, Bool, false, not, List, [], ◌∷◌, Some, None, Ok, filter, filter_map}
use Rattle.mb_edit.specs.Common.{Cell, cell_at, cell_eq, content_table, get, HashAlgorithm, id_for, is_normalized, list_any, MbtType, Place, rows_under, State, state_of, table_eq, TableName, Tables}
use Rattle.mb_edit.specs.Common.{tile_key, tile_table, TileSet}
use Rattle.mb_edit.specs.Applying.{put_row, stands_in}
use Rattle.mb_edit.specs.PatchingOrder.{bytes_put}
use Rattle.mb_edit.specs.Put.{state_put}

-- whether a table is of a layout's tiles, or of its contents by id, if it has these
abbrev pub is_tile_table : MbtType → TableName → Bool
is_tile_table layout table = table_eq table (tile_table layout) || (is_normalized layout && table_eq table (content_table layout))

-- the ids of contents that are put
abbrev pub ids_put : MbtType → HashAlgorithm → TileSet → List Cell
ids_put layout a tiles = filter_map (id_for layout a) (bytes_put tiles)

-- whether a row begins with one of some cells
abbrev pub begins_with_any : List Cell → List Cell → Bool
begins_with_any cells row = list_any (cell_eq (cell_at 0 row)) cells

-- tables that held a set, and hold it with these tiles
pub record ArePut (tiles : TileSet) (s : State) (old new : Tables) : Type 0 where
  -- they load again
  pub again : state_of new ≡ Ok (state_put s tiles)
  pub descriptions : new.descriptions ≡ old.descriptions
  -- rows of other places stay in their order, and so do those of contents under other ids, whether a tile has these or
  -- not, and all rows of other tables
  pub kept : filter (λ row. not (stands_in tiles row)) (new.rows (tile_table s.layout)) ≡ filter (λ row. not (stands_in tiles row)) (old.rows (tile_table s.layout))
  pub contents : filter (λ row. not (begins_with_any (ids_put s.layout s.algorithm tiles) row)) (new.rows (content_table s.layout)) ≡ filter (λ row. not (begins_with_any (ids_put s.layout s.algorithm tiles) row)) (old.rows (content_table s.layout))
  pub others : (table : TableName) → is_tile_table s.layout table ≡ false → new.rows table ≡ old.rows table
  -- a place has the row of the bytes that are put there, and none where null is
  pub put : (p : Place) (bytes : List ℕ) → get tiles p ≡ Some (Some bytes) → rows_under new (tile_table s.layout) (tile_key p) ≡ put_row s.layout s.algorithm p bytes ∷ []
  pub cleared : (p : Place) → get tiles p ≡ Some None → rows_under new (tile_table s.layout) (tile_key p) ≡ []
