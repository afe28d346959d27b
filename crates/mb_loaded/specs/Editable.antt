-- What can be put into a set.
use Rattle.std.specs.Prelude.{◌≡◌, ℕ, ◌<◌, ◌^◌, Bool, true, false, List, Some}
use Rattle.mb_loaded.specs.Common.{Blob, Cell, Dates, DedupId, digest, get, is_number, is_text, MbtType, Normalized, Place, Text}
use Rattle.mb_loaded.specs.State.{State}

-- a place of zoom 0 to 30
pub record IsOnBoard (p : Place) : Type 0 where
  pub zoom : p.zoom < 31
  pub column : p.column < 2 ^ p.zoom
  pub row : p.row < 2 ^ p.zoom

-- times of their kinds
pub record AreTimes (d : Dates) : Type 0 where
  pub fetched : is_number d.fetched ≡ true
  pub expires : is_number d.expires ≡ true
  pub etag : is_text d.etag ≡ true

-- whether tiles of a layout can be put
abbrev pub is_editable : MbtType → Bool
is_editable (Normalized view DedupId) = false
is_editable _ = true

-- no other contents stand under the digest of bytes
abbrev pub IsFree : State → List ℕ → Type 0
IsFree s bytes = (cell : Cell) → get s.contents (Text (digest s.algorithm bytes)) ≡ Some cell → cell ≡ Blob bytes
