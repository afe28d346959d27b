-- the last names are put
use Rattle.set_options.proofs.Common.{drop, entries, from_last, length, name_put, ◌≡◌, ◌≤◌}
use Rattle.set_options.proofs.set_names.SetNames.put_into.Given as goal

abbrev pub invariant-loop-left : goal.invariant-loop-left
invariant-loop-left l = record {
  within : l.left ≤ length (entries l.self);
  made : l.set ≡ from_last name_put l.initial.set (drop l.left (entries l.self));
}

abbrev pub decreases-loop-left : goal.decreases-loop-left
decreases-loop-left l = l.left
