-- the tiles of at least one byte so far
use Rattle.tile_bridge.proofs.Common.{AreFilled}
use Rattle.tile_bridge.proofs.adds.filled_tiles.Given as goal

abbrev pub invariant-loop-index : goal.invariant-loop-index
invariant-loop-index l = AreFilled l.set.state.tiles l.adds.items l.index
