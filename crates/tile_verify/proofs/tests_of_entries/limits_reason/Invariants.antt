use Rattle.tile_verify.proofs.Common.{drop, length, limits_break, None, ◌-◌, ◌≡◌}
use Rattle.tile_verify.proofs.tests_of_entries.limits_reason.Given as goal

abbrev pub invariant-loop-index : goal.invariant-loop-index
invariant-loop-index l = limits_break l.before l.low l.limit l.index (drop l.index l.entries) ≡ limits_break None l.low l.limit 0 l.entries

abbrev pub decreases-loop-index : goal.decreases-loop-index
decreases-loop-index l = length l.entries - l.index
