-- what is left has the first format of all
use Rattle.mb_tree.proofs.Common.{drop, first_format, ◌≡◌}
use Rattle.mb_tree.proofs.tests_of_paths.first_format.Given as goal

abbrev pub invariant-loop-path : goal.invariant-loop-path
invariant-loop-path l = first_format l.paths ≡ first_format (drop l.path-index l.paths)
