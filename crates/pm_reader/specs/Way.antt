-- The way of a look-up through leaves.
use Rattle.std.specs.Prelude.{ℕ, ◌+◌, ◌≤◌, List, Option, Result}
use Rattle.pm_reader.specs.Common.{Entry, entry_from, Header, hops_by, hops_from, PmtError, tile_by}
use Rattle.pm_reader.specs.Answers.{Gives}
use Rattle.pm_reader.specs.Caches.{Held}
use Rattle.pm_reader.specs.Levels.{IsTrusted}
use Rattle.pm_reader.specs.Reads.{reads_refused}
use Rattle.pm_reader.specs.Versions.{GivesUnmodified}

-- the tile entry is found, by no more reads than hops and one more where it is refused, and the cache stays trusted
pub record Follows (h : Header) (b : List ℕ) (root : List Entry) (t left : ℕ) (found : Option Entry) (before now : ℕ) (held : Held) (idle : Type 0) (result : Result (Option Entry) PmtError) : Type 0 where
  pub answer : Gives (entry_from left h b t found) result
  pub hops : now ≤ before + (hops_from left h b t found + reads_refused result)
  pub trusted : IsTrusted h b root held idle

-- the tile is found, by no more reads than hops and one more, and the cache stays trusted
pub record Finds (h : Header) (b : List ℕ) (root : List Entry) (t before now : ℕ) (held : Held) (idle : Type 0) (result : Result (Option (List ℕ)) PmtError) : Type 0 where
  pub answer : Gives (tile_by 6 h b root t) result
  pub hops : now ≤ before + (hops_by 6 h b root t + 1)
  pub trusted : IsTrusted h b root held idle

-- the same where version texts are compared
pub record FindsUnmodified (h : Header) (b : List ℕ) (root : List Entry) (t before now : ℕ) (held : Held) (idle : Type 0) (result : Result (Option (List ℕ)) PmtError) : Type 0 where
  pub answer : GivesUnmodified (tile_by 6 h b root t) (tile_by 6 h b root t) result
  pub hops : now ≤ before + (hops_by 6 h b root t + 1)
  pub trusted : IsTrusted h b root held idle
