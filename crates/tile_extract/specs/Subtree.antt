-- What the extraction of a tile and its descendants answers, why, and what it leaves: that of the part that these are.
use Rattle.std.specs.Prelude.{◌≤◌, ℕ, List, Option, Result}
use Rattle.tile_extract.specs.Common.{ArchivePlaces, Coord, Opened}
use Rattle.tile_extract.specs.Cut.{subtree}
use Rattle.tile_extract.specs.Extract.{PartAnswers, PartCauses, PartLeaves, PartUncompared, part_count, part_reads}
use Rattle.tile_extract.specs.declared.error.ExtractError.{ExtractError}

-- the zoom that is asked for is the tile's or a deeper one, up to 31
abbrev pub IsValid : Coord → ℕ → Type 0
IsValid c m = (c.z ≤ m) × (m ≤ 31)

-- how many tiles there are among those that are met
abbrev pub count_met : List ℕ → Opened → Coord → ℕ → ℕ
count_met b o c m = part_count b o (subtree c m)

-- over told bytes, when each answer comes
abbrev pub Answers : Option (List ℕ) → List ℕ → Coord → ℕ → ℕ → Result ArchivePlaces ExtractError → Type 0
Answers held b c m most result = PartAnswers held b (subtree c m) most result

-- told or not
abbrev pub Causes : Coord → ℕ → ℕ → Option (List ℕ) → ℕ → ℕ → ℕ → ℕ → Result ArchivePlaces ExtractError → Type 0
Causes c m most held before now old new result = PartCauses (subtree c m) most held before now old new result

-- what a medium holds afterwards
abbrev pub Leaves : Option (List ℕ) → Coord → ℕ → ℕ → Result ArchivePlaces ExtractError → Option (List ℕ) → Option (List ℕ) → Type 0
Leaves source c m most result old new = PartLeaves source (subtree c m) most result old new

-- how often the source and the medium are read
abbrev pub reads_at_most : List ℕ → Coord → ℕ → ℕ
reads_at_most b c m = part_reads b (subtree c m)

abbrev pub LeavesUncompared : Option (List ℕ) → Option (List ℕ) → Coord → ℕ → ℕ → ℕ → ℕ → Result ArchivePlaces ExtractError → Type 0
LeavesUncompared source held c m most before now result = PartUncompared source held (subtree c m) most before now result
