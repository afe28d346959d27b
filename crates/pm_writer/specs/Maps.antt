-- Directories of tile entries alone, and the map that they give.
use Rattle.std.specs.Prelude.{◌≡◌, ◌≢◌, ◌⊎◌, ℕ, ◌+◌, ◌<◌, ◌≤◌, List, [], ◌∷◌, Option, Some}
use Rattle.pm_writer.specs.Common.{Entry, MAX_TILE_ID, range_of, scan}
use Rattle.pm_format.specs.Directory.{◌>>=◌}
use Rattle.pm_writer.specs.Adds.{longest_run}

-- adds by rising id, none of them empty: the pairs of a map
abbrev pub RisingAdds : List (ℕ × List ℕ) → Type 0
RisingAdds [] = Unit {0}
RisingAdds (a ∷ []) = (a.1 ≢ []) × (a.0 ≤ MAX_TILE_ID)
RisingAdds (a ∷ b ∷ adds) = (a.1 ≢ []) × (a.0 < b.0) × RisingAdds (b ∷ adds)

-- tile entries with strictly rising ids that don't overlap, and runs that fit
abbrev pub Tiles : List Entry → Type 0
Tiles [] = Unit {0}
Tiles (e ∷ []) = (1 ≤ e.run_length) × (e.run_length ≤ longest_run)
Tiles (e ∷ f ∷ es) = (1 ≤ e.run_length) × (e.run_length ≤ longest_run) × (e.tile_id + e.run_length ≤ f.tile_id) × Tiles (f ∷ es)

-- what a directory of tile entries gives at an id over some data
abbrev pub given : List Entry → List ℕ → ℕ → Option (List ℕ)
given es bytes t = scan es t >>= λ e. range_of bytes e.offset e.length

-- it gives exactly the tiles of the map: at each id the map's tile, or nothing but no bytes
abbrev pub Gives : List Entry → List ℕ → (ℕ → Option (List ℕ)) → Type 0
Gives es bytes map = (t : ℕ) (x : List ℕ) → t ≤ MAX_TILE_ID → x ≢ [] → (map t ≡ Some x → given es bytes t ≡ Some x) × (given es bytes t ≡ Some x → map t ≡ Some x)

abbrev pub Covers : Entry → ℕ → Type 0
Covers e t = (e.tile_id ≤ t) × (t < e.tile_id + e.run_length)

abbrev pub IsIn : Entry → List Entry → Type 0
IsIn e [] = ⊥
IsIn e (f ∷ fs) = (e ≡ f) ⊎ IsIn e fs
