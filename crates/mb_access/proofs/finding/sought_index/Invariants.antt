-- Where the tile is sought.
use Rattle.mb_access.proofs.Common.{place_at, ◌-◌}
use Rattle.mb_access.proofs.FindingLemmas.{Between}
use Rattle.mb_access.proofs.finding.sought_index.Given as goal

abbrev pub invariant-loop-span : goal.invariant-loop-span
invariant-loop-span l = Between l.set.state.tiles (place_at l.coord) l.span.low l.span.high

abbrev pub decreases-loop-span : goal.decreases-loop-span
decreases-loop-span l = l.span.high - l.span.low
