use Rattle.pm_walk.proofs.Common.{is_below, length, meets_any, true, ◌≡◌}
use Rattle.pm_walk.proofs.intervals.is_met.Given as goal

abbrev pub invariant-loop-interval : goal.invariant-loop-interval
invariant-loop-interval l = (is_below l.end l.first ≡ true) × (meets_any l.first l.end l.rest ≡ meets_any l.first l.end l.intervals)

abbrev pub decreases-loop-interval : goal.decreases-loop-interval
decreases-loop-interval l = length l.rest
