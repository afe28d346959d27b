use Rattle.mb_sqlite.proofs.Common.{AllZip, bound, IsWrittenAs, take}
use Rattle.mb_sqlite.proofs.writing.values_of.Given as goal

abbrev pub invariant-loop-cell : goal.invariant-loop-cell
invariant-loop-cell l = AllZip IsWrittenAs (take l.cell-index l.cells) (bound l.values.items)
