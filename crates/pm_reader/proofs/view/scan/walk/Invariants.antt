use Rattle.pm_reader.proofs.RowReadLemmas.{Walking}
use Rattle.pm_reader.proofs.view.scan.walk.Given as goal

abbrev pub invariant-loop-i : goal.invariant-loop-i
invariant-loop-i l = Walking l.id l.bytes l.fn.first l.count l._i l.at l.found
