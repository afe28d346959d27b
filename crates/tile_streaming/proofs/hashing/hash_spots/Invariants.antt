-- the tiles of the spots so far are hashed
use Rattle.tile_streaming.proofs.Common.{HashAlgorithm, ReadsOnly, stored_in, take, [], ◌≡◌}
use Rattle.tile_hash.specs.HashStream.{HasTaken}
use Rattle.tile_streaming.specs.Hashing.{AreHashed}
use Rattle.tile_streaming.specs.Spots.{marks_at}
use Rattle.tile_streaming.proofs.hashing.hash_spots.Given as goal

abbrev pub invariant-loop-spot : goal.invariant-loop-spot
invariant-loop-spot g l =
    ((a : HashAlgorithm) → HasTaken a l.fn.stream [] → AreHashed (g.S.TileStore.tells l.fn.store) (stored_in l.set (g.S.TileStore.told l.fn.store)) a (marks_at l.marks (take l.spot-index l.spots)) l.stream)
    × ReadsOnly g.S.TileStore.told g.S.TileStore.tells g.S.TileStore.faults g.S.TileStore.steady l.fn.store l.store
    × (g.S.TileStore.faults l.store ≡ g.S.TileStore.faults l.fn.store)
