use Rattle.tile_hash.proofs.Common.{first_mixes, ◌≡◌}
use Rattle.tile_hash.proofs.xxh3.middle.first_mixes.Given as goal

abbrev pub invariant-loop-i : goal.invariant-loop-i
invariant-loop-i l = l.sum ≡ first_mixes l.bytes l.i
