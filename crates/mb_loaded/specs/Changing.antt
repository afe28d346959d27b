-- The changes of a loaded set.
use Rattle.std.specs.Prelude.{◌≡◌, ℕ, pos, ◌++◌, ◌||◌, Bool, true, false, List, [], ◌∷◌, Option, Some, None, All, option_map, slice_get, unwrap_or}
use Rattle.mb_loaded.specs.Common.{blob_cell, Cache, Cell, Change, contains_key, contents_of, Dates, digest, Flat, FlatWithHash, get, HashAlgorithm, Images, Int, IntId, MbtType, Metadata, Names}
use Rattle.mb_loaded.specs.Common.{Normalized, Null, Place, RowKey, table_eq, Text, text_cell, TextId, Tile, tile_table}
use Rattle.mb_loaded.specs.Edits.{no_dates}
use Rattle.mb_loaded.specs.Held.{Edited, Held}
use Rattle.mb_loaded.specs.State.{State}
use Rattle.mb_tables.specs.declared.table.TableName.{TableName}

-- the table that has a layout's contents by id; the layouts that have none use no row of it
abbrev pub content_table : MbtType → TableName
content_table (Normalized view schema) = contents_of schema
content_table _ = Images

-- the place of a key
abbrev pub tile_key : Place → RowKey
tile_key p = Tile p.zoom p.column p.row

abbrev pub front : Place → List Cell
front p = Int (pos p.zoom) ∷ Int (pos p.column) ∷ Int (pos p.row) ∷ []

-- the digest of contents that are put, and null for null
abbrev pub hash_cell : HashAlgorithm → Option (List ℕ) → Cell
hash_cell a None = Null
hash_cell a (Some bytes) = Text (digest a bytes)

-- the cells after the place of the row of a tile
abbrev pub cells_for : MbtType → HashAlgorithm → Option (List ℕ) → Option Cell → Option Dates → List Cell
cells_for Flat a contents id dates = blob_cell contents ∷ []
cells_for FlatWithHash a contents id dates = blob_cell contents ∷ hash_cell a contents ∷ []
cells_for (Normalized view schema) a contents id dates = unwrap_or id Null ∷ []
cells_for Cache a contents id dates = by (unwrap_or dates no_dates)
  where
    by : Dates → List Cell
    by d = d.fetched ∷ d.expires ∷ d.etag ∷ blob_cell contents ∷ []

-- the row of the tile at a place, where there is one
abbrev pub tile_row : State → Place → Option (List Cell)
tile_row s p = option_map (λ contents. front p ++ cells_for s.layout s.algorithm contents (get s.ids p) (get s.dates p)) (get s.tiles p)

-- the row of the contents of an id
abbrev pub content_row : State → Cell → Option (List Cell)
content_row s id = option_map (λ cell. id ∷ cell ∷ []) (get s.contents id)

-- the row of a name
abbrev pub name_row : Names → List ℕ → Option (List Cell)
name_row names name = option_map (λ value. Text name ∷ text_cell value ∷ []) (get names name)

-- the rows of the three tables by their keys; a key of another kind has none
abbrev pub tile_row_by : State → RowKey → Option (List Cell)
tile_row_by s (Tile zoom column row) = tile_row s (record { zoom = zoom; column = column; row = row })
tile_row_by s _ = None

abbrev pub content_row_by : State → RowKey → Option (List Cell)
content_row_by s (TextId text) = content_row s (Text text)
content_row_by s (IntId n) = content_row s (Int n)
content_row_by s _ = None

abbrev pub name_row_by : State → RowKey → Option (List Cell)
name_row_by s (TextId name) = name_row s.metadata name
name_row_by s _ = None

-- whether what a key of the three tables stands for was edited
abbrev pub place_edited : Edited → RowKey → Bool
place_edited e (Tile zoom column row) = contains_key e.places (record { zoom = zoom; column = column; row = row })
place_edited e _ = false

abbrev pub id_edited : Edited → RowKey → Bool
id_edited e (TextId text) = contains_key e.ids (Text text)
id_edited e (IntId n) = contains_key e.ids (Int n)
id_edited e _ = false

abbrev pub name_edited : Edited → RowKey → Bool
name_edited e (TextId name) = contains_key e.names name
name_edited e _ = false

-- the changes of a table are those of the edited keys, and each puts the row of its key, or
-- removes it where there is none
pub record Covers (edited : RowKey → Bool) (row : RowKey → Option (List Cell)) (table : TableName) (changes : List Change) : Type 0 where
  pub made : (key : RowKey) → edited key ≡ true → (i : ℕ) × (c : Change) × (slice_get changes i ≡ Some c) × (table_eq c.table table ≡ true) × (c.key ≡ key)
  pub only : All (λ c. table_eq c.table table ≡ true → (edited c.key ≡ true) × (c.row ≡ row c.key)) changes

-- whether a table is one of the three of a layout
abbrev pub is_own_table : MbtType → TableName → Bool
is_own_table layout table = table_eq table (tile_table layout) || table_eq table (content_table layout) || table_eq table Metadata

-- the changes of a loaded set
pub record AreChangesOf (h : Held) (changes : List Change) : Type 0 where
  pub tiles : Covers (place_edited h.edited) (tile_row_by h.state) (tile_table h.state.layout) changes
  pub contents : Covers (id_edited h.edited) (content_row_by h.state) (content_table h.state.layout) changes
  pub names : Covers (name_edited h.edited) (name_row_by h.state) Metadata changes
  pub tables : All (λ c. is_own_table h.state.layout c.table ≡ true) changes
