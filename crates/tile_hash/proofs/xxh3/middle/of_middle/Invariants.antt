use Rattle.tile_hash.proofs.Common.{pairs, ◌≡◌}
use Rattle.tile_hash.proofs.xxh3.middle.of_middle.Given as goal

abbrev pub invariant-loop-i : goal.invariant-loop-i
invariant-loop-i l = l.sum ≡ pairs l.bytes l.i
