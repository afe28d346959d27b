use Rattle.mb_cache.proofs.Common.{drop, ◌≡◌}
use Rattle.mb_cache.proofs.evicting.pop_all.Given as goal

-- what is behind what is left to remove is what is behind all of it
abbrev pub invariant-loop-left : goal.invariant-loop-left
invariant-loop-left l = drop l.left l.entries.keys ≡ drop l.count l.fn.entries.keys

abbrev pub decreases-loop-left : goal.decreases-loop-left
decreases-loop-left l = l.left
