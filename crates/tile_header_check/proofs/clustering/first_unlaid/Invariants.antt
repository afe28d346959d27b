use Rattle.tile_header_check.proofs.Common.{first_unlaid, length, RiseTo, [], ◌-◌, ◌≡◌, ◌≤◌}
use Rattle.tile_header_check.proofs.clustering.first_unlaid.Given as goal

abbrev pub invariant-loop-part : goal.invariant-loop-part
invariant-loop-part l =
    (length l.rest ≤ length l.parts) × RiseTo l.laid.end l.laid.begins.items × (first_unlaid (length l.parts - length l.rest) l.laid.end l.laid.begins.items l.rest ≡ first_unlaid 0 0 [] l.parts)

abbrev pub decreases-loop-part : goal.decreases-loop-part
decreases-loop-part l = length l.rest
