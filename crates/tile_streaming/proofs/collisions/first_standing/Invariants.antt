-- none of the digests so far is such a one
use Rattle.tile_streaming.proofs.Common.{find, None, not, take, ◌||◌, ◌≡◌}
use Rattle.std.specs.BTreeSet.{contains}
use Rattle.tile_streaming.specs.Collisions.{is_known}
use Rattle.tile_streaming.specs.Suspects.{by_bytes}
use Rattle.tile_streaming.proofs.collisions.first_standing.Given as goal

abbrev pub invariant-loop-digest : goal.invariant-loop-digest
invariant-loop-digest l = find (λ d. is_known l.known d || not (contains by_bytes l.unnamed d)) (take l.digest-index l.digests) ≡ None
