use Rattle.pm_format.proofs.Common.{◌-◌}
use Rattle.pm_format.proofs.SearchLemmas.{Searching}
use Rattle.pm_format.proofs.directory.search.count_begun.Given as goal

abbrev pub invariant-loop-low : goal.invariant-loop-low
invariant-loop-low g l = Searching l.entries l.id l.low l.high l.fn.steps l.steps

abbrev pub decreases-loop-low : goal.decreases-loop-low
decreases-loop-low g l = l.high - l.low
