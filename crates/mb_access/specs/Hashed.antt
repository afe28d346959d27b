-- What a read of a tile with its stored digest answers.
use Rattle.std.specs.Prelude.{◌≡◌, ℕ, Bool, true, List, Option, Some, None, Result, Ok, find, option_and_then, option_map}
use Rattle.mb_access.specs.Common.{Cell, cell_at, Coord, FinMap, FlatWithHash, get, Hash, IsBegun, MbtError, MbtType, Normalized, place_at, place_cmp, State, Tables, Text, tile_key, TilesWithHash}
use Rattle.mb_access.specs.Reads.{bytes_in, coord_in}
use Rattle.mb_tables.specs.Key.{has_key}

-- the row that tables have at a coordinate in the table of tiles with their digests
abbrev pub row_at : Tables → Option Coord → Option (List Cell)
row_at t c =
    option_and_then
    (λ c. find (has_key TilesWithHash (tile_key (place_at c))) (t.rows TilesWithHash)) c

-- the row that is asked for: that of a flat set with digests
abbrev pub row_by : MbtType → Tables → Option Coord → Option (List Cell)
row_by FlatWithHash t c = row_at t c
row_by _ t c = None

-- the id that a normalised set has at a coordinate
abbrev pub id_at : FinMap place_cmp Cell → Option Coord → Option Cell
id_at ids c = option_and_then (λ c. get ids (place_at c)) c

abbrev pub text_in : Cell → Option (List ℕ)
text_in (Text text) = Some text
text_in _ = None

-- the stored digest: the fifth cell of the row, or the text id of the contents; the other layouts have none
abbrev pub hash_by : MbtType → Option (List Cell) → Option Cell → Option (List ℕ)
hash_by FlatWithHash row id = option_and_then (λ row. text_in (cell_at 4 row)) row
hash_by (Normalized view Hash) row id = option_and_then text_in id
hash_by _ row id = None

-- the bytes of the tile with its digest, where the row in the table of tiles with their digests is this one
abbrev pub hashed_answer : ℕ → ℕ → ℕ → Option (List Cell) → State
    → Result (Option (List ℕ × Option (List ℕ))) MbtError
hashed_answer z x y row s =
    Ok (option_map (λ bytes. (bytes, hash_by s.layout row (id_at s.ids (coord_in z x y))))
    (bytes_in s.tiles (coord_in z x y)))

-- the answer that is due, with the row that the store tells; a store that tells nothing has some row
pub record IsHashed (z x y : ℕ) (tells : Bool) (told : Tables)
    (answer : Result (Option (List ℕ × Option (List ℕ))) MbtError) : Type 0 where
  pub row : Option (List Cell)
  pub is_told : tells ≡ true → row ≡ row_at told (coord_in z x y)
  pub begun : IsBegun (hashed_answer z x y row) tells told answer
