-- How much data tables hold.
use Rattle.std.specs.Prelude.{ℕ, ◌-◌, ◌^◌, List, [], ◌∷◌, length, min, sum_by}
use Rattle.mb_store.specs.Common.{Blob, Cell, Images, Map, Metadata, TableName, Tables, Text, TileCache, Tiles, TilesData, TilesShallow, TilesWithHash}

-- the bytes of a text or blob, and 8 for each other cell
abbrev pub cell_size : Cell → ℕ
cell_size (Text bytes) = length bytes
cell_size (Blob bytes) = length bytes
cell_size _ = 8

abbrev pub row_size : List Cell → ℕ
row_size row = sum_by cell_size row

abbrev pub all_tables : List TableName
all_tables = Tiles ∷ TilesWithHash ∷ Map ∷ Images ∷ TilesShallow ∷ TilesData ∷ TileCache ∷ Metadata ∷ []

-- the sizes of all rows of all tables, as far as a count goes
abbrev pub live_size_of : Tables → ℕ
live_size_of t = min (sum_by (λ table. sum_by row_size (t.rows table)) all_tables) (2 ^ 64 - 1)
