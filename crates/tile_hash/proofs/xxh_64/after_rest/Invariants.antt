use Rattle.tile_hash.proofs.Common.{after_bytes, after_half, ◌≡◌}
use Rattle.tile_hash.proofs.xxh_64.after_rest.Given as goal

abbrev pub invariant-loop-i : goal.invariant-loop-i
invariant-loop-i l = l.hash ≡ after_bytes (after_half l.begun l.rest) l.rest l.at l.i
