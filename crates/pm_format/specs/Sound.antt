-- Archives in which every look-up ends well.
use Rattle.std.specs.Prelude.{◌≡◌, ◌≢◌, ℕ, zero, suc, ◌+◌, ◌<◌, ◌≤◌, List, [], ◌∷◌, Ok, IsSome}
use Rattle.pm_format.specs.Common.{MAX_TILE_ID}
use Rattle.pm_format.specs.declared.header.Header.{Header}
use Rattle.pm_format.specs.Directory.{Entry}
use Rattle.pm_format.specs.Opened.{Opened, opened}
use Rattle.pm_format.specs.LookUp.{range_of, leaf_of}

-- ids strictly rise between two limits, no run passes the next id or the upper limit, and a fact holds of each entry
-- and the id where its range ends
abbrev pub EachEntry : (Entry → ℕ → Type 0) → ℕ → ℕ → List Entry → Type 0
EachEntry P low limit [] = Unit {0}
EachEntry P low limit (e ∷ []) = (low ≤ e.tile_id) × (e.tile_id < limit) × (e.tile_id + e.run_length ≤ limit) × P e limit
EachEntry P low limit (e ∷ f ∷ es) = (low ≤ e.tile_id) × (e.tile_id < f.tile_id) × (e.tile_id + e.run_length ≤ f.tile_id) × P e f.tile_id × EachEntry P f.tile_id limit (f ∷ es)

-- the contents of a tile entry lie in the bytes
abbrev pub HasData : Header → List ℕ → Entry → Type 0
HasData h b e = IsSome (range_of b (h.data_offset + e.offset) e.length)

-- a directory between two limits, at most so many leaves deep
abbrev pub SoundDirectory : ℕ → Header → List ℕ → ℕ → ℕ → List Entry → Type 0
SoundDirectory zero h b low limit es = EachEntry (λ e end. (e.run_length ≢ 0) × HasData h b e) low limit es
SoundDirectory (suc n) h b low limit es =
    EachEntry (λ e end. (e.run_length ≢ 0 → HasData h b e)
    × (e.run_length ≡ 0 → (leaf : List Entry) × (leaf_of h b e ≡ Ok leaf) × SoundDirectory n h b e.tile_id end leaf)) low limit es

-- the bytes open, and each directory reached from the root is so
pub record Sound (b : List ℕ) : Type 0 where
  pub found : Opened
  pub opens : opened b ≡ Ok found
  pub root : SoundDirectory 6 found.0 b 0 (MAX_TILE_ID + 1) found.1
