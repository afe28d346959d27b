use Rattle.pm_walk.proofs.Common.{Collected, Holds, length, ◌≢◌}
use Rattle.pm_walk.proofs.PartingLemmas.{Parting}
use Rattle.pm_walk.proofs.parts.add_entry.Given as goal

abbrev pub invariant-loop-interval : goal.invariant-loop-interval
invariant-loop-interval g l =
    (l.entry.length ≢ 0)
    × ((c : Collected) → Holds g.T.TakesEntries.holds l.fn.collecting.taker l.fn.collecting.room c → Parting g.T.TakesEntries.holds l.entry l.intervals l.rest c l.collecting.taker l.collecting.room)

abbrev pub decreases-loop-interval : goal.decreases-loop-interval
decreases-loop-interval g l = length l.rest
