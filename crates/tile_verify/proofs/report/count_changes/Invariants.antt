use Rattle.tile_verify.proofs.Common.{dedup, dedup_from, length, map, range_of_part, same_range, ◌+◌, ◌≡◌, ◌≤◌}
use Rattle.tile_verify.proofs.report.count_changes.Given as goal

abbrev pub invariant-loop-part : goal.invariant-loop-part
invariant-loop-part l = (l.count + length (dedup_from same_range l.last (map range_of_part l.rest)) ≡ length (dedup same_range (map range_of_part l.parts)) + 1) × (l.count + length l.rest ≤ length l.parts)

abbrev pub decreases-loop-part : goal.decreases-loop-part
decreases-loop-part l = length l.rest
