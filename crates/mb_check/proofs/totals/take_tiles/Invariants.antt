use Rattle.mb_check.proofs.Common.{entries}
use Rattle.mb_check.proofs.SizesLemmas.{AreTaken}
use Rattle.mb_check.proofs.totals.take_tiles.Given as goal

abbrev pub invariant-loop-index : goal.invariant-loop-index
invariant-loop-index l = AreTaken l.fn.sizes l.sizes (entries l.set.state.tiles) l.index
