-- so many patches are made
use Rattle.tile_bridge.proofs.FoldLemmas.{Folded}
use Rattle.tile_bridge.proofs.patching.patch_all.Given as goal

abbrev pub invariant-loop-index : goal.invariant-loop-index
invariant-loop-index g l = Folded g.P.TileStore.tells g.P.TileStore.told g.P.TileStore.faults g.P.TileStore.steady l.force l.fn.base l.fn.patches.items l.patches.items l.index l.set
