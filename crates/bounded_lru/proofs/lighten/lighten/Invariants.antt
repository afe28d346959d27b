use Rattle.bounded_lru.proofs.Common.{length}
use Rattle.bounded_lru.proofs.GivingUpLemmas.{Lightened}
use Rattle.bounded_lru.proofs.lighten.lighten.Given as goal

abbrev pub invariant-loop-left : goal.invariant-loop-left
invariant-loop-left g l = Lightened g.V.Weigh.weight l.room l.initial.pairs l.pairs l.left

abbrev pub decreases-loop-left : goal.decreases-loop-left
decreases-loop-left g l = length l.pairs.entries
