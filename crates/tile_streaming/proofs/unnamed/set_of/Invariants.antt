-- the set has the digests so far
use Rattle.tile_streaming.proofs.Common.{List, take, ℕ, ◌≡◌}
use Rattle.std.specs.BTreeSet.{contains}
use Rattle.tile_streaming.specs.Suspects.{by_bytes, is_among}
use Rattle.tile_streaming.proofs.unnamed.set_of.Given as goal

abbrev pub invariant-loop-digest : goal.invariant-loop-digest
invariant-loop-digest l = (d : List ℕ) → contains by_bytes l.set d ≡ is_among (take l.digest-index l.digests) d
