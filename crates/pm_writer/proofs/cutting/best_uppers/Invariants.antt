use Rattle.pm_writer.proofs.Common.{length, map, wide_as, ◌-◌}
use Rattle.pm_writer.proofs.Trying.{Trying}
use Rattle.pm_writer.proofs.cutting.best_uppers.Given as goal

abbrev pub invariant-loop-uppers : goal.invariant-loop-uppers
invariant-loop-uppers l = Trying l.place l.first l.size (map wide_as l.names)

abbrev pub decreases-loop-uppers : goal.decreases-loop-uppers
decreases-loop-uppers l = length l.names - l.size
