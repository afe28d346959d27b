use Rattle.mb_copy.proofs.Common.{drop, entries, from_last, length, null_put, ◌≡◌, ◌≤◌}
use Rattle.mb_copy.proofs.edits.put_all_nulls.Given as goal

abbrev pub invariant-loop-left : goal.invariant-loop-left
invariant-loop-left l = record {
  within : l.left ≤ length (entries l.put.state.tiles);
  made : l.set ≡ from_last null_put l.initial.set (drop l.left (entries l.put.state.tiles));
}

abbrev pub decreases-loop-left : goal.decreases-loop-left
decreases-loop-left l = l.left
