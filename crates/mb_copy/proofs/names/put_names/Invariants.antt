use Rattle.mb_copy.proofs.Common.{drop, entries, from_last, length, name_put, ◌≡◌, ◌≤◌}
use Rattle.mb_copy.proofs.names.put_names.Given as goal

abbrev pub invariant-loop-left : goal.invariant-loop-left
invariant-loop-left l = record {
  within : l.left ≤ length (entries l.put.state.metadata);
  made : l.set ≡ from_last name_put l.initial.set (drop l.left (entries l.put.state.metadata));
}

abbrev pub decreases-loop-left : goal.decreases-loop-left
decreases-loop-left l = l.left
