-- the indexes so far, and those of the contents that are left
use Rattle.mb_lists.proofs.Common.{drop, ids_from, ◌++◌, ◌≡◌}
use Rattle.mb_lists.proofs.content_list.ids_of.Given as goal

abbrev pub invariant-loop-index : goal.invariant-loop-index
invariant-loop-index l = l.order.items ++ ids_from l.index (drop l.index l.items) ≡ ids_from 0 l.items
