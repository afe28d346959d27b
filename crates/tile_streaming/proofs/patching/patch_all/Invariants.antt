-- the base was only read, and so many patches are made
use Rattle.tile_streaming.proofs.Common.{ReadsOnly, State, ◌≡◌}
use Rattle.tile_streaming.proofs.PatchLemmas.{HasFolded}
use Rattle.tile_streaming.specs.Overlaid.{StandsFor}
use Rattle.tile_streaming.proofs.patching.patch_all.Given as goal

abbrev pub invariant-loop-index : goal.invariant-loop-index
invariant-loop-index g l = record {
  layout : l.now.rest.layout ≡ l.fn.set.rest.layout;
  kept : ReadsOnly g.S.TileStore.told g.S.TileStore.tells g.S.TileStore.faults g.S.TileStore.steady l.fn.base l.base;
  still : g.S.TileStore.faults l.base ≡ g.S.TileStore.faults l.fn.base;
  folded : (s : State) → StandsFor (g.S.TileStore.tells l.fn.base) (g.S.TileStore.told l.fn.base) l.fn.set s
      → HasFolded g.P.TileStore.tells g.P.TileStore.told g.P.TileStore.faults g.P.TileStore.steady l.force (g.S.TileStore.tells l.fn.base) (g.S.TileStore.told l.fn.base) s l.fn.patches.items l.patches.items l.index l.now;
}
