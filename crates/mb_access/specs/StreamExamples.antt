-- The order of a stream, on small tables.
use Rattle.std.specs.Prelude.{◌≡◌, ℕ, pos, cond, false, refl, List, [], ◌∷◌, Some, None}
use Rattle.mb_access.specs.StreamSteps.{page_size}
use Rattle.mb_access.specs.Common.{Blob, Cell, Flat, Hash, Images, Int, Map, Normalized, Null, pairs_of, Place, table_eq, Tables, Text, Tiles}
use Rattle.mb_tables.specs.declared.table.TableName.{TableName}

abbrev row : ℕ → ℕ → ℕ → Cell → List Cell
row zoom column line cell = Int (pos zoom) ∷ Int (pos column) ∷ Int (pos line) ∷ cell ∷ []

abbrev at : ℕ → ℕ → ℕ → Place
at zoom column line = record { zoom = zoom; column = column; row = line }

-- tables with rows of tiles, and of contents by id
abbrev with_rows : TableName → List (List Cell) → List (List Cell) → Tables
with_rows tiles rows contents = record {
  descriptions = [];
  rows = λ table. cond (table_eq table tiles) rows (cond (table_eq table Images) contents []);
}

-- in the order of the rows, and not of the places, null included
pub in_row_order : pairs_of Flat
    (with_rows Tiles (row 1 1 0 (Blob (48 ∷ [])) ∷ row 0 0 0 Null ∷ []) [])
    ≡ (at 1 1 0, Some (48 ∷ [])) ∷ (at 0 0 0, None) ∷ []
in_row_order = refl

-- a row of a normalised set without an id is none of a tile
pub without_id : pairs_of (Normalized false Hash)
    (with_rows Map (row 0 0 0 Null ∷ row 1 0 0 (Text (65 ∷ [])) ∷ [])
    ((Text (65 ∷ []) ∷ Blob (48 ∷ []) ∷ []) ∷ []))
    ≡ (at 1 0 0, Some (48 ∷ [])) ∷ []
without_id = refl

pub first_page : page_size 0 ≡ 1024
first_page = refl

pub later_page : page_size 65536 ≡ 8192
later_page = refl
