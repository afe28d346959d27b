-- Tables that a set was loaded from.
use Rattle.std.specs.Prelude.{◌≡◌, ℕ, codes, ◌≤◌, ◌&&◌, true, false, List, [], ◌∷◌, Option, Some, None, All, filter, filter_map, length, option_and_then, option_map, option_to_list}
use Rattle.mb_load.specs.Common.{algorithm_by, AreTimes, bad_tile, Cell, cell_at, contains_key, content_row, content_rows, content_table, contents_of, Dates, dates_in, find, get, has_key}
use Rattle.mb_load.specs.Common.{has_name_kinds, has_tile_kinds, HashAlgorithm, Held, id_in, index_missing, is_cache, is_id, is_normalized, is_null, IsOnBoard, key_cells, layout_of, MbtType, Metadata}
use Rattle.mb_load.specs.Common.{metadata_missing, name_row, patch_type_of, Place, place_cmp, RowKey, State, Tables, text_at, TextId, tile_in, tile_key, tile_table, unknown_name, wrong_content_hash}
use Rattle.mb_load.specs.Common.{wrong_tile_hash}
use Rattle.mb_tables.specs.Tiles.{place_of}

-- all tiles of a set stand at such places
abbrev pub AllOnBoard : State → Type 0
AllOnBoard s = (p : Place) → contains_key s.tiles p ≡ true → IsOnBoard p

-- an id that contents of a layout can have, and that is their digest where the layout wants that
pub record IsContentOf (layout : MbtType) (a : HashAlgorithm) (id cell : Cell) : Type 0 where
  pub normalised : is_normalized layout ≡ true
  pub present : is_null id ≡ false
  pub kind : is_id layout id ≡ true
  pub digest : wrong_content_hash layout a (id ∷ cell ∷ []) ≡ None

-- a state that tables of its layout can hold: a normalised set, and no other, has the id of each tile, whose contents
-- are the tile; a cache, and no other, has the times of each tile
pub record IsLoadable (s : State) : Type 0 where
  pub on_board : AllOnBoard s
  pub placed : (p : Place) → contains_key s.ids p ≡ (is_normalized s.layout && contains_key s.tiles p)
  pub joined : is_normalized s.layout ≡ true → (p : Place) → get s.tiles p ≡ option_and_then (λ id. option_and_then contents_of (get s.contents id)) (get s.ids p)
  pub stored : (id cell : Cell) → get s.contents id ≡ Some cell → IsContentOf s.layout s.algorithm id cell
  pub dated : (p : Place) → contains_key s.dates p ≡ (is_cache s.layout && contains_key s.tiles p)
  pub times : (p : Place) (d : Dates) → get s.dates p ≡ Some d → AreTimes d

-- what a row has at its place
abbrev pub at_place : {A : Type 0} → (List Cell → Option A) → List Cell → Option (Place × A)
at_place value row = option_and_then (λ place. option_map (λ v. (place, v)) (value row)) (place_of row)

-- what the first of rows that has something at a place has there
abbrev pub found : {A : Type 0} → (List Cell → Option (Place × A)) → Place → List (List Cell) → Option A
found value p rows = find place_cmp p (filter_map value rows)

-- rows under the key of a place, as loading reads them, have what the state has at the place
pub record FitsPlace (s : State) (p : Place) (rows : List (List Cell)) : Type 0 where
  pub alone : length rows ≤ 1
  pub tile : is_normalized s.layout ≡ false → found (tile_in s.layout []) p rows ≡ get s.tiles p
  pub id : found (at_place (id_in s.layout)) p rows ≡ get s.ids p
  pub dates : found (at_place (dates_in s.layout)) p rows ≡ get s.dates p

-- a row of the tile table that no test of its own cells refuses; no contents are here, so that the place alone of a
-- row with an id is tested
pub record IsGoodRow (layout : MbtType) (a : HashAlgorithm) (row : List Cell) : Type 0 where
  pub kinds : has_tile_kinds layout row ≡ true
  pub place : bad_tile layout [] row ≡ None
  pub digest : wrong_tile_hash layout a row ≡ None

-- the same of a row of contents
pub record IsGoodContent (layout : MbtType) (a : HashAlgorithm) (row : List Cell) : Type 0 where
  pub width : length row ≡ 2
  pub kind : is_id layout (cell_at 0 row) ≡ true
  pub digest : wrong_content_hash layout a row ≡ None

-- tables that a set was loaded from: but for what was edited since, the rows of each key are as the set has them, and
-- no test of loading refuses a row
pub record IsLoadedFrom (t : Tables) (h : Held) : Type 0 where
  pub layout : layout_of t.descriptions ≡ Some h.state.layout
  pub patch_type : patch_type_of t.descriptions ≡ h.state.patch_type
  pub described : metadata_missing t.descriptions ≡ None
  pub indexed : index_missing t.descriptions h.state.layout ≡ None
  pub state : IsLoadable h.state
  pub with_ids : (id : Cell) → contains_key h.edited.ids id ≡ true → is_normalized h.state.layout ≡ true
  pub tiles : (p : Place) → contains_key h.edited.places p ≡ false → FitsPlace h.state p (filter (has_key (tile_table h.state.layout) (tile_key p)) (t.rows (tile_table h.state.layout)))
  pub contents : (id : Cell) (key : RowKey) → key_cells key ≡ id ∷ [] → contains_key h.edited.ids id ≡ false → filter (has_key (content_table h.state.layout) key) (content_rows h.state.layout t) ≡ option_to_list (content_row h.state id)
  pub names : (name : List ℕ) → contains_key h.edited.names name ≡ false → filter (has_key Metadata (TextId name)) (t.rows Metadata) ≡ option_to_list (name_row h.state.metadata name)
  pub tile_rows : All (IsGoodRow h.state.layout h.state.algorithm) (t.rows (tile_table h.state.layout))
  pub content_rows : All (IsGoodContent h.state.layout h.state.algorithm) (content_rows h.state.layout t)
  pub name_rows : All (λ row. has_name_kinds row ≡ true) (t.rows Metadata)

-- the metadata names the algorithm of the state, as it does after loading and need not after an edit
pub record NamesAlgorithm (s : State) : Type 0 where
  pub known : unknown_name (text_at s.metadata (codes "hash_algorithm")) ≡ None
  pub named : algorithm_by (text_at s.metadata (codes "hash_algorithm")) ≡ s.algorithm
