use Rattle.pm_walk.proofs.Common.{Collected, header_of, Holds, length, ReadsOnly, ◌≡◌}
use Rattle.pm_walk.proofs.StepLemmas.{OnTheWay}
use Rattle.pm_walk.proofs.walk.+walk.Given as goal

abbrev pub decreases-walk : goal.decreases-walk
decreases-walk g l = l.left

abbrev pub invariant-loop-first : goal.invariant-loop-first
invariant-loop-first g l =
    ReadsOnly g.B.Backend.told g.B.Backend.versions g.B.Backend.faults g.B.Backend.steady l.fn.backend l.backend
    × (g.B.Backend.faults l.backend ≡ g.B.Backend.faults l.fn.backend)
    × ((c : Collected) → Holds g.T.TakesEntries.holds l.fn.collecting.taker l.fn.collecting.room c
    → OnTheWay g.T.TakesEntries.holds l.extent (g.B.Backend.told l.fn.backend) (header_of l.state) l.intervals l.left l.low l.limit l.directory l.before l.rest c l.collecting.taker l.collecting.room (g.B.Backend.reads l.fn.backend) (g.B.Backend.reads l.backend))

abbrev pub decreases-loop-first : goal.decreases-loop-first
decreases-loop-first g l = length l.rest
