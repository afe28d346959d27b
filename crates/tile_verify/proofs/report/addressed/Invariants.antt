use Rattle.tile_verify.proofs.Common.{addressed_by, capped, length, run_of, sum_by, ◌+◌, ◌-◌, ◌^◌, ◌≡◌, ◌≤◌}
use Rattle.tile_verify.proofs.report.addressed.Given as goal

abbrev pub invariant-loop-tile : goal.invariant-loop-tile
invariant-loop-tile l = (capped (l.sum + sum_by run_of l.rest) ≡ addressed_by l.tiles) × (l.sum ≤ 2 ^ 64 - 1)

abbrev pub decreases-loop-tile : goal.decreases-loop-tile
decreases-loop-tile l = length l.rest
