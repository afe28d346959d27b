-- the base was only read, and the digests are those of the tiles so far that may collide
use Rattle.tile_streaming.proofs.Common.{entries, HashAlgorithm, MbtType, ReadsOnly, take, true, ◌≡◌}
use Rattle.mb_edit.specs.Common.{ids_given}
use Rattle.tile_streaming.proofs.PutContentLemmas.{put_of}
use Rattle.tile_streaming.specs.Layouts.{has_digests}
use Rattle.tile_streaming.specs.Suspects.{suspects}
use Rattle.tile_streaming.proofs.collisions.suspects.Given as goal

abbrev pub invariant-loop-index : goal.invariant-loop-index
invariant-loop-index g l = record {
  kept : ReadsOnly g.S.TileStore.told g.S.TileStore.tells g.S.TileStore.faults g.S.TileStore.steady l.fn.base l.base;
  still : g.S.TileStore.faults l.base ≡ g.S.TileStore.faults l.fn.base;
  shown : (k : MbtType) (a : HashAlgorithm) → has_digests k ≡ true → l.ids ≡ ids_given k a l.patch.state.tiles → g.S.TileStore.tells l.fn.base ≡ true
      → l.digests.items ≡ suspects (g.S.TileStore.told l.fn.base) a l.known (put_of (take l.index (entries l.patch.state.tiles)));
}
