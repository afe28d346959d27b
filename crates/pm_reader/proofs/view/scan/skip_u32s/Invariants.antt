use Rattle.pm_reader.proofs.Common.{◌^◌}
use Rattle.pm_reader.proofs.RowReadLemmas.{Skipping}
use Rattle.pm_reader.proofs.view.scan.skip_u32s.Given as goal

abbrev pub invariant-loop-i : goal.invariant-loop-i
invariant-loop-i l = Skipping l.bytes 5 (2 ^ 32) l.start l.count l._i l.at
