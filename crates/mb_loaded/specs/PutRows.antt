-- The rows that entries of a set ask for, and the changes that put or remove them.
use Rattle.std.specs.Prelude.{ℕ, List, [], ◌∷◌, ◌++◌, Option, Some, None, option_and_then, unwrap_or}
use Rattle.mb_loaded.specs.Changing.{content_table, front, tile_key}
use Rattle.mb_loaded.specs.Edits.{no_dates}
use Rattle.mb_loaded.specs.Common.{Blob, Cache, Cell, Change, Content, content_at, Dates, digest, Flat, FlatWithHash, HashAlgorithm, Int, IntId, Kept, MbtType, Metadata, Normalized, Null, place_of}
use Rattle.mb_loaded.specs.Common.{Put, Removed, RowKey, StoredName, StoredTile, Text, TextId, tile_table}
use Rattle.mb_lists.specs.declared.entries.Standing.{Standing}
use Rattle.mb_store.specs.Changes.{with_change}

-- the digest of contents; null has none
abbrev pub digest_cell : HashAlgorithm → Cell → Cell
digest_cell a (Blob bytes) = Text (digest a bytes)
digest_cell a _ = Null

-- the times of a tile
abbrev pub times_cells : Dates → List Cell
times_cells d = d.fetched ∷ d.expires ∷ d.etag ∷ []

-- the cells after the place of the row of a tile with these contents
abbrev pub cells_kept : MbtType → HashAlgorithm → Content → Option Dates → List Cell
cells_kept Flat a c dates = c.cell ∷ []
cells_kept FlatWithHash a c dates = c.cell ∷ digest_cell a c.cell ∷ []
cells_kept (Normalized view schema) a c dates = c.id ∷ []
cells_kept Cache a c dates = times_cells (unwrap_or dates no_dates) ++ c.cell ∷ []

abbrev pub row_of_tile : MbtType → HashAlgorithm → List Content → StoredTile → List Cell
row_of_tile layout a contents t = front (place_of t) ++ cells_kept layout a (content_at contents t.contents) t.dates

abbrev pub row_of_content : Content → List Cell
row_of_content c = c.id ∷ c.cell ∷ []

abbrev pub row_of_name : StoredName → List Cell
row_of_name n = Text n.name ∷ n.value ∷ []

-- the key of an id
abbrev pub id_key : Cell → Option RowKey
id_key (Text text) = Some (TextId text)
id_key (Int n) = Some (IntId n)
id_key _ = None

-- the change that an entry asks for: none, its row, or no row
abbrev pub change_by : Standing → List Cell → (Option (List Cell) → Change) → Option Change
change_by Kept row change = None
change_by Put row change = Some (change (Some row))
change_by Removed row change = Some (change None)

abbrev pub tile_change : MbtType → HashAlgorithm → List Content → StoredTile → Option Change
tile_change layout a contents t = change_by t.standing (row_of_tile layout a contents t) (λ row. record { table = tile_table layout; key = tile_key (place_of t); row = row })

abbrev pub content_change : MbtType → Content → Option Change
content_change layout c = option_and_then (λ key. change_by c.standing (row_of_content c) (λ row. record { table = content_table layout; key = key; row = row })) (id_key c.id)

abbrev pub listed_change : MbtType → List Content → ℕ → Option Change
listed_change layout contents i = content_change layout (content_at contents i)

abbrev pub name_change : StoredName → Option Change
name_change n = change_by n.standing (row_of_name n) (λ row. record { table = Metadata; key = TextId n.name; row = row })

-- a change, if there is one
abbrev pub with_any : List Change → Option Change → List Change
with_any changes None = changes
with_any changes (Some c) = with_change changes c
