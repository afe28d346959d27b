-- How many entries a directory of tile entries below the root may have, as a word.
use Rattle.std.specs.Prelude.{◌≡◌, ℕ, ◌≤◌, List, nat_le, if◌then◌else◌, Option, Some, None, codes, refl}
use Rattle.tileset_script.specs.Common.{number_to, option_and_then}

abbrev pub at_least : ℕ → ℕ → Option ℕ
at_least limit n = if nat_le limit n then Some n else None

-- 16 to 65,536
abbrev pub leaf_entries_of : List ℕ → Option ℕ
leaf_entries_of word = option_and_then (at_least 16) (number_to 65536 word)

pub record IsLeafEntries (n : ℕ) : Type 0 where
  pub least : 16 ≤ n
  pub most : n ≤ 65536

pub sixteen : leaf_entries_of (codes "16") ≡ Some 16
sixteen = refl

pub fifteen : leaf_entries_of (codes "15") ≡ None
fifteen = refl

pub too_many : leaf_entries_of (codes "65537") ≡ None
too_many = refl
