-- Lists of contents out of which some are taken, once each.
use Rattle.std.specs.Prelude.{◌≡◌, ◌≢◌, ◌<◌, ◌≤◌, ℕ, Bool, false, true, List, Some, length, slice_get}
use Rattle.mb_loaded.specs.Common.{Content, id_at, is_null, Null, Put, StoredTile}

-- what stands in the place of contents that were taken
abbrev pub taken : Content
taken = record { id = Null; cell = Null; standing = Put }

-- for each of the contents the index of the last tile that is put with them
abbrev pub AreLast : List StoredTile → List ℕ → Type 0
AreLast tiles last = (j : ℕ) (t : StoredTile) → slice_get tiles j ≡ Some t → t.standing ≡ Put → (m : ℕ) × (slice_get last t.contents ≡ Some m) × (j ≤ m)

-- contents that are there still: those that have an id, and those with which a tile from an index on is put
pub record AreUnspent (first now : List Content) (last : List ℕ) (n : ℕ) : Type 0 where
  pub named : (k : ℕ) → is_null (id_at first k) ≡ false → slice_get now k ≡ slice_get first k
  pub used : (k m : ℕ) → slice_get last k ≡ Some m → n ≤ m → slice_get now k ≡ slice_get first k

-- contents at an index are taken at their last use, unless they have an id; all others stay
pub record Spends (is_last : Bool) (i : ℕ) (old new : List Content) : Type 0 where
  pub each : length new ≡ length old
  pub named : (k : ℕ) → is_null (id_at old k) ≡ false → slice_get new k ≡ slice_get old k
  pub others : (k : ℕ) → k ≢ i → slice_get new k ≡ slice_get old k
  pub kept : is_last ≡ false → new ≡ old

-- contents at an index that have no id, and with which no tile from another index on is put
abbrev pub IsSpent : List Content → List ℕ → ℕ → ℕ → Type 0
IsSpent contents last k n = (is_null (id_at contents k) ≡ true) × ((m : ℕ) → slice_get last k ≡ Some m → m < n)
