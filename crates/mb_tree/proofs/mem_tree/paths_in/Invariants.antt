use Rattle.mb_tree.proofs.Common.{keys, ◌++◌, ◌≡◌}
use Rattle.mb_tree.proofs.mem_tree.paths_in.Given as goal

abbrev pub invariant-loop-path : goal.invariant-loop-path
invariant-loop-path l = l.paths.items ++ l.path-iterator ≡ keys l.files
