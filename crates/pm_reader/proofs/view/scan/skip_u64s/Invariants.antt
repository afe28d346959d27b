use Rattle.pm_reader.proofs.Common.{◌^◌}
use Rattle.pm_reader.proofs.RowReadLemmas.{Skipping}
use Rattle.pm_reader.proofs.view.scan.skip_u64s.Given as goal

abbrev pub invariant-loop-i : goal.invariant-loop-i
invariant-loop-i l = Skipping l.bytes 10 (2 ^ 64) l.start l.count l._i l.at
