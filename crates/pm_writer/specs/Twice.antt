-- Ids that were added twice.
use Rattle.std.specs.Prelude.{ℕ, ◌+◌, ◌-◌, ◌<◌, ◌≤◌, List, [], ◌∷◌, sum_by, nat_le, nat_lt, nat_eq, ◌&&◌, if◌then◌else◌, Option, Some, None}
use Rattle.pm_writer.specs.Common.{Entry}

-- how many adds are at an id
abbrev pub adds_at : List (ℕ × List ℕ) → ℕ → ℕ
adds_at adds t = sum_by (λ a. if nat_eq a.0 t then 1 else 0) adds

-- the least id that was added twice
pub record IsLeastTwice (adds : List (ℕ × List ℕ)) (t : ℕ) : Type 0 where
  pub twice : 2 ≤ adds_at adds t
  pub least : (s : ℕ) → s < t → adds_at adds s ≤ 1

-- no id was added twice
abbrev pub Distinct : List (ℕ × List ℕ) → Type 0
Distinct adds = (t : ℕ) → adds_at adds t ≤ 1

-- how many entries cover an id
abbrev pub covering : ℕ → Entry → ℕ
covering t e = if nat_le e.tile_id t && nat_lt t (e.tile_id + e.run_length) then 1 else 0

abbrev pub times : List Entry → ℕ → ℕ
times es t = sum_by (covering t) es

-- the first entry that begins within the run before it
abbrev pub first_within : List Entry → Option ℕ
first_within [] = None
first_within (e ∷ []) = None
first_within (e ∷ f ∷ es) = if nat_lt (f.tile_id - e.tile_id) e.run_length then Some f.tile_id else first_within (f ∷ es)
