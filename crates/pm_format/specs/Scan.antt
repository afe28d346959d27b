-- What a directory has for an id: a walk from its front.
use Rattle.std.specs.Prelude.{◌≡◌, ℕ, ◌-◌, ◌<◌, ◌≤◌, List, [], ◌∷◌, length, Option, Some, None, nat_lt, nat_le, nat_eq, if◌then◌else◌, refl}
use Rattle.pm_format.specs.Common.{slice_index_or}
use Rattle.pm_format.specs.Directory.{Entry, entry, three, ◌>>=◌}

-- the last entry whose id is at most t, or what was found before
abbrev pub last_below : ℕ → Option Entry → List Entry → Option Entry
last_below t found [] = found
last_below t found (e ∷ es) = last_below t (if nat_le e.tile_id t then Some e else found) es

-- an entry covers an id where it leads to a leaf, or the id lies in its run
abbrev pub covers : ℕ → Entry → Option Entry
covers t e = if nat_eq e.run_length 0 then Some e else (if nat_lt (t - e.tile_id) e.run_length then Some e else None)

unfoldable pub scan : List Entry → ℕ → Option Entry
scan es t = last_below t None es >>= covers t

-- the first n entries begin at t or before it, and no other
pub record Parts (es : List Entry) (t n : ℕ) : Type 0 where
  pub within : n ≤ length es
  pub below : (k : ℕ) (d : Entry) → k < n → (slice_index_or es k d).tile_id ≤ t
  pub above : (k : ℕ) (d : Entry) → n ≤ k → k < length es → t < (slice_index_or es k d).tile_id

pub third_found : scan three 3 ≡ Some (entry 2 2 2 2)
unfolding scan
third_found = refl

pub none_found : scan three 4 ≡ None
unfolding scan
none_found = refl
