use Rattle.mb_tables.proofs.Common.{take, ◌≡◌}
use Rattle.mb_tables.proofs.index.IndexList.try_clone.Given as goal

abbrev pub invariant-loop-index : goal.invariant-loop-index
invariant-loop-index l = l.indexes.items ≡ take l.index-index l.index-items
