use Rattle.pm_writer.proofs.Common.{drop, first_within, ◌-◌, ◌≡◌}
use Rattle.pm_writer.proofs.order.first_overlap.Given as goal

abbrev pub invariant-loop-i : goal.invariant-loop-i
invariant-loop-i l = first_within l.entries ≡ first_within (drop (l.i - 1) l.entries)
