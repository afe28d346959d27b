use Rattle.tile_hash.proofs.Common.{more_mixes, ◌≡◌}
use Rattle.tile_hash.proofs.xxh3.middle.more_mixes.Given as goal

abbrev pub invariant-loop-i : goal.invariant-loop-i
invariant-loop-i l = l.sum ≡ more_mixes l.bytes l.i
