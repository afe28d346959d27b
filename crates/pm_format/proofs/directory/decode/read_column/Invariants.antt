use Rattle.pm_format.proofs.Common.{◌^◌}
use Rattle.pm_format.proofs.ColumnLemmas.{ColumnReading}
use Rattle.pm_format.proofs.directory.decode.read_column.Given as goal

abbrev pub invariant-loop-i : goal.invariant-loop-i
invariant-loop-i l = ColumnReading l.bytes 5 (2 ^ 32) l.start l.count l._i l.at l.numbers.items
