-- Look-ups in archives.
use Rattle.std.specs.Prelude.{◌≡◌, ◌⊎◌, ℕ, ◌+◌, ◌≤◌, List, Ok}
use Rattle.pm_reader.specs.Common.{hops, Opened, opened}
use Rattle.pm_reader.specs.Levels.{HasOneLength}

-- each leaf offset of the archive is used with one length
abbrev pub UsesOneLength : List ℕ → Type 0
UsesOneLength b = (o : Opened) → opened b ≡ Ok o → HasOneLength o.0 b o.1

-- an idle cache is harmless, and another one where each leaf offset is used with one length
abbrev pub IsCacheable : List ℕ → Type 0 → Type 0
IsCacheable b idle = UsesOneLength b ⊎ idle

-- a count of reads rose by no more than the hops of the look-up and one more
abbrev pub ReadsByHops : List ℕ → ℕ → ℕ → ℕ → Type 0
ReadsByHops b t before now = now ≤ before + (hops b t + 1)
