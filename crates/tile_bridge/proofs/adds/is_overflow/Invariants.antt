-- the tiles so far are short, and have so many bytes
use Rattle.tile_bridge.proofs.SizeLemmas.{IsCounted}
use Rattle.tile_bridge.proofs.adds.is_overflow.Given as goal

abbrev pub invariant-loop-index : goal.invariant-loop-index
invariant-loop-index l = IsCounted l.set.state.tiles l.index l.total
