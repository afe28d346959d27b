use Rattle.set_import.proofs.Common.{length, ◌+◌, ◌≡◌}
use Rattle.pm_walk.specs.Parts.{tile_count}
use Rattle.set_import.proofs.entries.count_tiles.Given as goal

abbrev pub invariant-loop-entry : goal.invariant-loop-entry
invariant-loop-entry l = l.count + tile_count l.rest ≡ tile_count l.fn.entries

abbrev pub decreases-loop-entry : goal.decreases-loop-entry
decreases-loop-entry l = length l.rest
