-- The ids that a layout gives the tiles of a set.
use Rattle.std.specs.Prelude.{ℕ, List, map, slice_get, unwrap_or}
use Rattle.mb_loaded.specs.Common.{Blob, blob_cell, Cell, Content, entries, HashAlgorithm, MbtType, Null, TileSet}
use Rattle.mb_loaded.specs.Edits.{id_for}

-- the id that a layout gives contents: null where it gives none, and for null
abbrev pub cell_id : MbtType → HashAlgorithm → Cell → Cell
cell_id layout a (Blob bytes) = unwrap_or (id_for layout a bytes) Null
cell_id layout a _ = Null

abbrev pub content_id : MbtType → HashAlgorithm → Content → Cell
content_id layout a c = cell_id layout a c.cell

-- the ids of the tiles of a set, in the order of their places
abbrev pub ids_given : MbtType → HashAlgorithm → TileSet → List Cell
ids_given layout a tiles = map (λ e. cell_id layout a (blob_cell e.1)) (entries tiles)

-- an id for each of these indexes
abbrev pub ids_at : List Cell → List ℕ → List Cell
ids_at ids indexes = map (λ i. unwrap_or (slice_get ids i) Null) indexes
