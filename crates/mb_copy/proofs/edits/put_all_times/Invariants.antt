use Rattle.mb_copy.proofs.Common.{drop, entries, from_last, length, time_put, ◌≡◌, ◌≤◌}
use Rattle.mb_copy.proofs.edits.put_all_times.Given as goal

abbrev pub invariant-loop-left : goal.invariant-loop-left
invariant-loop-left l = record {
  within : l.left ≤ length (entries l.put.state.tiles);
  made : l.set ≡ from_last (time_put l.put.state.dates) l.initial.set (drop l.left (entries l.put.state.tiles));
}

abbrev pub decreases-loop-left : goal.decreases-loop-left
decreases-loop-left l = l.left
