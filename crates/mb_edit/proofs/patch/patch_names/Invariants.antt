use Rattle.mb_edit.proofs.Common.{drop, entries, from_last, length, name_patched, ◌≡◌, ◌≤◌}
use Rattle.mb_edit.proofs.patch.patch_names.Given as goal

abbrev pub invariant-loop-left : goal.invariant-loop-left
invariant-loop-left l = record {
  within : l.left ≤ length (entries l.patch.state.metadata);
  made : l.set ≡ from_last name_patched l.initial.set (drop l.left (entries l.patch.state.metadata));
}

abbrev pub decreases-loop-left : goal.decreases-loop-left
decreases-loop-left l = l.left
