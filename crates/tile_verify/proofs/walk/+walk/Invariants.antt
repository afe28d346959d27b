use Rattle.tile_verify.proofs.Common.{header_of, IfSome, length, limits_break, None, ReadsOnly, ◌≡◌, ◌≤◌}
use Rattle.tile_verify.proofs.WalkingLemmas.{SoFar}
use Rattle.tile_verify.proofs.walk.+walk.Given as goal

abbrev pub decreases-walk : goal.decreases-walk
decreases-walk g l = l.left

abbrev pub invariant-loop-entry : goal.invariant-loop-entry
invariant-loop-entry g l =
    (length l.rest ≤ length l.entries)
    × (limits_break None l.low l.limit 0 l.entries ≡ None)
    × (l.entries ≡ l.directory)
    × ReadsOnly g.B.Backend.told g.B.Backend.versions g.B.Backend.faults g.B.Backend.steady l.fn.backend l.backend
    × IfSome (g.B.Backend.told l.fn.backend) (λ b. SoFar (header_of l.state) b l.at l.left l.limit l.entries l.rest l.fn.met l.met (g.B.Backend.reads l.fn.backend) (g.B.Backend.reads l.backend))
    × (g.B.Backend.reads l.fn.backend ≤ g.B.Backend.reads l.backend)
    × (g.B.Backend.faults l.backend ≡ g.B.Backend.faults l.fn.backend)

abbrev pub decreases-loop-entry : goal.decreases-loop-entry
decreases-loop-entry g l = length l.rest
