use Rattle.pm_writer.proofs.Common.{drop, sum_by, ◌+◌, ◌≡◌}
use Rattle.pm_writer.proofs.finishing.addressed_tiles.Given as goal

abbrev pub invariant-loop-entry : goal.invariant-loop-entry
invariant-loop-entry l = l.count + sum_by (λ e. e.run_length) (drop l.entry-index l.entries) ≡ sum_by (λ e. e.run_length) l.entries
