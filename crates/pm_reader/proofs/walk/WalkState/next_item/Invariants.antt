use Rattle.pm_reader.proofs.GoingLemmas.{Going}
use Rattle.pm_reader.proofs.walk.WalkState.next_item.Given as goal

abbrev pub invariant-loop-entry : goal.invariant-loop-entry
invariant-loop-entry g l = Going g.B.Backend.told g.B.Backend.versions g.B.Backend.reads g.B.Backend.faults g.B.Backend.steady l.fn.self l.self l.fn.backend l.backend

abbrev pub decreases-loop-entry : goal.decreases-loop-entry
decreases-loop-entry g l = l.self.budget
