-- Counts of an object of the outside. Each stands still at the end of u64.
use Rattle.std.specs.Prelude.{ℕ, ◌≡◌, ◌+◌, ◌-◌, ◌^◌, ◌≤◌, ◌<◌, min}

-- one more, up to the end of u64
abbrev pub one_more : ℕ → ℕ
one_more n = min (n + 1) (2 ^ 64 - 1)

-- a count of faults rose in the call, or stands at its end
abbrev pub Rose : ℕ → ℕ → Type 0
Rose before now = one_more before ≤ now

-- a count of things grew by n, as far as the end of u64 allows
pub record Grew (before now n : ℕ) : Type 0 where
  pub later : before ≤ now
  pub most : now ≤ before + n
  pub exact : now < 2 ^ 64 - 1 → now ≡ before + n
