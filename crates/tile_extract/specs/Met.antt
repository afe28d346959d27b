-- The directories that the intervals of a part meet: their tile entries, or the first refusal.
use Rattle.std.specs.Prelude.{ℕ, List, None}
use Rattle.tile_extract.specs.Common.{Opened, Walked, walked}
use Rattle.pm_walk.specs.declared.extent.Extent.TheVariants.{Within}
use Rattle.tile_extract.specs.declared.part.TilePart.{TilePart}

-- all of an archive that opens; the range of the root has no end
abbrev pub met_of : List ℕ → Opened → TilePart → Walked
met_of b o part = walked Within 6 o.0 b part.intervals 0 None o.1
