use Rattle.tile_hash.proofs.Common.{blocks, ◌≡◌}
use Rattle.tile_hash.proofs.xxh3.long.blocks.Given as goal

abbrev pub invariant-loop-i : goal.invariant-loop-i
invariant-loop-i l = l.v ≡ blocks l.bytes l.i
