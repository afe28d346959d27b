-- What a commit of a set's changes leaves of the tables that it was loaded from.
use Rattle.std.specs.Prelude.{◌≡◌, ℕ, ◌&&◌, ◌||◌, Bool, true, false, List, [], ◌∷◌, Ok, filter, option_to_list}
use Rattle.mb_load.specs.Common.{Cell, cell_at, contains_key, content_row, content_table, fresh, has_key, Held, is_normalized, is_null, key_cells, MbtType, Metadata, name_row, Place, RowKey, table_eq}
use Rattle.mb_load.specs.Common.{TableName, Tables, TextId, tile_key, tile_row, tile_table}
use Rattle.mb_load.specs.LoadedFrom.{IsLoadedFrom, NamesAlgorithm}
use Rattle.mb_load.specs.StateOf.{state_of}

-- whether a table is one of those of a layout: of its tiles, of its contents by id, if it has these, or of metadata
abbrev pub is_set_table : MbtType → TableName → Bool
is_set_table layout table = table_eq table (tile_table layout) || (is_normalized layout && table_eq table (content_table layout)) || table_eq table Metadata

-- the rows of a table under a key
abbrev pub rows_under : Tables → TableName → RowKey → List (List Cell)
rows_under t table key = filter (has_key table key) (t.rows table)

-- the tables hold the present state. Rows of places, ids and names that weren't edited, rows of contents with a null id
-- and all other tables are as before; under each key that was edited stands its row, with the digest of its bytes where
-- the layout has one, or none
pub record IsCommitted (h : Held) (old new : Tables) : Type 0 where
  pub descriptions : new.descriptions ≡ old.descriptions
  pub loaded : IsLoadedFrom new (fresh h.state)
  pub again : NamesAlgorithm h.state → state_of new ≡ Ok h.state
  pub kept : (p : Place) → contains_key h.edited.places p ≡ false → rows_under new (tile_table h.state.layout) (tile_key p) ≡ rows_under old (tile_table h.state.layout) (tile_key p)
  pub put : (p : Place) → contains_key h.edited.places p ≡ true → rows_under new (tile_table h.state.layout) (tile_key p) ≡ option_to_list (tile_row h.state p)
  pub kept_ids : (id : Cell) (key : RowKey) → key_cells key ≡ id ∷ [] → contains_key h.edited.ids id ≡ false → rows_under new (content_table h.state.layout) key ≡ rows_under old (content_table h.state.layout) key
  pub put_ids : (id : Cell) (key : RowKey) → key_cells key ≡ id ∷ [] → contains_key h.edited.ids id ≡ true → rows_under new (content_table h.state.layout) key ≡ option_to_list (content_row h.state id)
  pub null_ids : filter (λ row. is_null (cell_at 0 row)) (new.rows (content_table h.state.layout)) ≡ filter (λ row. is_null (cell_at 0 row)) (old.rows (content_table h.state.layout))
  pub kept_names : (name : List ℕ) → contains_key h.edited.names name ≡ false → rows_under new Metadata (TextId name) ≡ rows_under old Metadata (TextId name)
  pub put_names : (name : List ℕ) → contains_key h.edited.names name ≡ true → rows_under new Metadata (TextId name) ≡ option_to_list (name_row h.state.metadata name)
  pub others : (table : TableName) → is_set_table h.state.layout table ≡ false → new.rows table ≡ old.rows table
