-- The contents that tables have for a mark.
use Rattle.std.specs.Prelude.{ℕ, ◌≡◌, ◌%◌, ◌&&◌, ◌^◌, nat_eq, nat_le, Bool, true, List, length, find, option_and_then, Option, Some}
use Rattle.tile_streaming.specs.Common.{Cache, Cell, cell_at, cell_bytes, coord_of, has_key, id_key, is_gzip, MbtType, Normalized, option_map, Place, place_at, Tables, tile_key, tile_table, xxh3_64}
use Rattle.mb_tables.specs.Kind.{contents_of}
use Rattle.mb_tables.specs.declared.table.TableName.{TableName}
use Rattle.std.specs.Bool.{beq}
use Rattle.tile_streaming.specs.declared.mark.Mark.{Mark}

-- the place that has an id
abbrev pub place_with : ℕ → Place
place_with id = place_at (coord_of id)

-- the cell of the contents in a row that has them: that of a tile, or of a normalised set that of its contents
abbrev pub content_cell : MbtType → List Cell → Cell
content_cell Cache row = cell_at 6 row
content_cell (Normalized view schema) row = cell_at 1 row
content_cell _ row = cell_at 3 row

-- its bytes, none where it is null
abbrev pub row_bytes : MbtType → List Cell → List ℕ
row_bytes layout row = cell_bytes (content_cell layout row)

-- the row of a tile that tables have for the id of its place
abbrev pub tile_told : MbtType → Tables → ℕ → Option (List Cell)
tile_told layout t id = find (has_key (tile_table layout) (tile_key (place_with id))) (t.rows (tile_table layout))

-- the row of the contents that the row of a tile names; an id that is neither a text nor a number names none
abbrev pub named_told : TableName → Tables → List Cell → Option (List Cell)
named_told table t row = option_and_then (λ key. find (has_key table key) (t.rows table)) (id_key (cell_at 3 row))

-- the row that has the contents of the tile, and their bytes
abbrev pub row_told : MbtType → Tables → ℕ → Option (List Cell)
row_told (Normalized view schema) t id = option_and_then (named_told (contents_of schema) t) (tile_told (Normalized view schema) t id)
row_told layout t id = tile_told layout t id

abbrev pub bytes_told : MbtType → Tables → ℕ → Option (List ℕ)
bytes_told layout t id = option_map (row_bytes layout) (row_told layout t id)

-- whether a mark is of so many bytes
abbrev pub has_size : Mark → ℕ → Bool
has_size m n = nat_eq (n % 2 ^ 32) m.length && beq (nat_le (2 ^ 32) n) m.is_long

-- whether bytes have the length and the digest of a mark, and begin as gzip begins where it says so
abbrev pub fits : Mark → List ℕ → Bool
fits m bytes = (has_size m (length bytes) && nat_eq (xxh3_64 bytes) m.digest) && beq (is_gzip bytes) m.gzip
