-- What a walk has collected.
use Rattle.std.specs.Prelude.{ℕ, List, Option}
use Rattle.pm_walk.specs.Common.{Entry}

-- parts in order, the contents of each beside them, and for how many more tiles there is room; there is none once it
-- didn't suffice, and then parts are missing
pub record Collected : Type 0 where
  pub parts : List Entry
  pub contents : List (List ℕ)
  pub room : Option ℕ
