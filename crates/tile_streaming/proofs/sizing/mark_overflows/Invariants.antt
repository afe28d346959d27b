-- the marks so far are short, and are of so many bytes
use Rattle.tile_streaming.proofs.SizeLemmas.{AreCounted}
use Rattle.tile_streaming.proofs.sizing.mark_overflows.Given as goal

abbrev pub invariant-loop-mark : goal.invariant-loop-mark
invariant-loop-mark l = AreCounted l.marks l.mark-index l.total
