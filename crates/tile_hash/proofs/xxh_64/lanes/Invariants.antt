use Rattle.tile_hash.proofs.Common.{lanes_after, ◌≡◌}
use Rattle.tile_hash.proofs.xxh_64.lanes.Given as goal

abbrev pub invariant-loop-i : goal.invariant-loop-i
invariant-loop-i l = l.v ≡ lanes_after l.bytes l.i
