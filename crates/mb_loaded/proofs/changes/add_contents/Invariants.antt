use Rattle.mb_loaded.proofs.Common.{filter_map, listed_change, take, ◌++◌, ◌≡◌}
use Rattle.mb_loaded.proofs.changes.add_contents.Given as goal

abbrev pub invariant-loop-index : goal.invariant-loop-index
invariant-loop-index l = l.changes ≡ l.fn.changes ++ filter_map (listed_change l.layout l.contents) (take l.index-index l.order)
