use Rattle.tile_hash.proofs.Common.{drop, hashed_from, ◌≡◌}
use Rattle.tile_hash.proofs.fnv.hashed_from.Given as goal

abbrev pub invariant-loop-byte : goal.invariant-loop-byte
invariant-loop-byte l = hashed_from l.hash (drop l.byte-index l.bytes) ≡ hashed_from l.start l.bytes
