use Rattle.tile_hash.proofs.Common.{taken, ◌≡◌}
use Rattle.tile_hash.proofs.xxh3.long.taken.Given as goal

abbrev pub invariant-loop-i : goal.invariant-loop-i
invariant-loop-i l = l.v ≡ taken l.fn.start l.bytes l.at l.number l.i
