use Rattle.pm_reader.proofs.Common.{length}
use Rattle.pm_reader.proofs.PoppingLemmas.{SameQueue}
use Rattle.pm_reader.proofs.walk.WalkState.pop.Given as goal

abbrev pub invariant-loop-self : goal.invariant-loop-self
invariant-loop-self l = SameQueue l.fn.self l.self

abbrev pub decreases-loop-self : goal.decreases-loop-self
decreases-loop-self l = length l.self.leaves.items
