use Rattle.mb_store.proofs.Common.{drop, ◌≡◌}
use Rattle.mb_store.proofs.reading.past.Given as goal

-- what is behind what is left to pass is what is behind all of it
abbrev pub invariant-loop-left : goal.invariant-loop-left
invariant-loop-left l = drop l.left l.rest ≡ drop l.count l.initial.rest

abbrev pub decreases-loop-left : goal.decreases-loop-left
decreases-loop-left l = l.left
