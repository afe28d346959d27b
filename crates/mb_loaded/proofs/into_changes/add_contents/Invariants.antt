use Rattle.mb_loaded.proofs.Common.{filter_map, length, listed_change, take, ◌++◌, ◌-◌, ◌≡◌, ◌≤◌}
use Rattle.mb_loaded.proofs.TakenLemmas.{LeftFrom}
use Rattle.mb_loaded.proofs.into_changes.add_contents.Given as goal

abbrev pub invariant-loop-index : goal.invariant-loop-index
invariant-loop-index l = record {
  within : l.index ≤ length l.order;
  changes : l.changes ≡ l.fn.changes ++ filter_map (listed_change l.layout l.fn.contents.items) (take l.index l.order);
  each : length l.contents.items ≡ length l.fn.contents.items;
  left : LeftFrom l.index l.order l.fn.contents.items l.contents.items;
}

abbrev pub decreases-loop-index : goal.decreases-loop-index
decreases-loop-index l = length l.order - l.index
