use Rattle.pm_format.proofs.ColumnLemmas.{IdsReading}
use Rattle.pm_format.proofs.directory.decode.read_ids.Given as goal

abbrev pub invariant-loop-i : goal.invariant-loop-i
invariant-loop-i l = IdsReading l.bytes l.start l.count l._i l.at l.last l.ids.items
