use Rattle.pm_writer.proofs.Common.{length, map}
use Rattle.pm_writer.proofs.CuttingLemmas.{Cuts}
use Rattle.pm_writer.proofs.level.cut_level.Given as goal

abbrev pub invariant-loop-rest : goal.invariant-loop-rest
invariant-loop-rest g l = Cuts l.level l.place l.size (map g.E.AsWide.entry l.rest) (map g.E.AsWide.entry l.fn.entries)

abbrev pub decreases-loop-rest : goal.decreases-loop-rest
decreases-loop-rest g l = length l.rest
