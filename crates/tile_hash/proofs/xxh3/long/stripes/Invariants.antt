use Rattle.tile_hash.proofs.Common.{stripes, ◌≡◌}
use Rattle.tile_hash.proofs.xxh3.long.stripes.Given as goal

abbrev pub invariant-loop-i : goal.invariant-loop-i
invariant-loop-i l = l.v ≡ stripes l.fn.start l.bytes l.at l.i
