-- what is left is refused as all are
use Rattle.mb_tree.proofs.Common.{drop, first_refused, path_refused, ◌≡◌}
use Rattle.mb_tree.proofs.tests_of_paths.test_each.Given as goal

abbrev pub invariant-loop-path : goal.invariant-loop-path
invariant-loop-path l = first_refused (path_refused l.first) l.paths ≡ first_refused (path_refused l.first) (drop l.path-index l.paths)
