-- What a row of a cache says of its tile, and what reads of a cache answer.
use Rattle.std.specs.Prelude.{ℕ, ◌≡◌, Bool, true, List, Option, Some, None, Result, Ok, IfSome, option_and_then, option_map}
use Rattle.mb_cache.specs.Finding.{coord_in}
use Rattle.mb_cache.specs.State.{row_at}
use Rattle.mb_cache.specs.declared.moments.CachedTile.{CachedTile}
use Rattle.mb_cache.specs.declared.moments.UnixSeconds.{UnixSeconds}
use Rattle.mb_cache.specs.Common.{Answers, Blob, Cell, cell_at, Int, MbtError, place_at, Tables, Text}

abbrev pub moment_in : Cell → Option UnixSeconds
moment_in (Int n) = Some (record { 0 = n })
moment_in _ = None

abbrev pub text_in : Cell → Option (List ℕ)
text_in (Text text) = Some text
text_in _ = None

abbrev pub blob_in : Cell → Option (List ℕ)
blob_in (Blob bytes) = Some bytes
blob_in _ = None

-- the bytes of the tile of a row, None for null
abbrev pub bytes_of : List Cell → Option (List ℕ)
bytes_of row = blob_in (cell_at 6 row)

-- the tile of a row, None for null
abbrev pub cached_of : List Cell → Option CachedTile
cached_of row = option_map (λ bytes. record {
  tile_data = bytes;
  fetched = moment_in (cell_at 3 row);
  expires = moment_in (cell_at 4 row);
  etag = text_in (cell_at 5 row);
}) (bytes_of row)

-- the answer that is due of the row of a coordinate: of the one that the store tells, and of some where it
-- tells nothing. Nothing is at three numbers that are no coordinate. Only running out of memory and a fault of the
-- store may come in its place
pub record IsRead {A : Type 0} (f : List Cell → Option A) (z x y : ℕ) (tells : Bool) (told : Tables) (answer : Result (Option A) MbtError) : Type 0 where
  pub row : Option (List Cell)
  pub is_told : tells ≡ true → IfSome (coord_in z x y) (λ c. row ≡ row_at told (place_at c))
  pub answers : Answers (Ok (option_and_then (λ c. option_and_then f row) (coord_in z x y))) answer
