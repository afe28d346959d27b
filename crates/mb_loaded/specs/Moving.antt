-- Tiles of another set whose contents are moved to an opened set.
use Rattle.std.specs.Prelude.{◌≡◌, ℕ, suc, List, Some, length, slice_get}
use Rattle.mb_loaded.specs.Common.{Blob, Content, content_at}

-- another set's contents, of which those with a copy were moved: they were bytes, and the cells of all others are there
pub record AreLeft (others now : List Content) (copies : List ℕ) : Type 0 where
  pub each : length now ≡ length others
  pub left : (k : ℕ) → slice_get copies k ≡ Some 0 → (content_at now k).cell ≡ (content_at others k).cell
  pub moved : (k i : ℕ) → slice_get copies k ≡ Some (suc i) → (bytes : List ℕ) × ((content_at others k).cell ≡ Blob bytes)
