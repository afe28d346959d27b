use Rattle.mb_tree.proofs.LawLemmas.{none_described, tiles_back, tree_back}
use Rattle.mb_tree.proofs.laws.unpacked_as_it_was.Goals as goal

pub returns-clause-tree : goal.returns-clause-tree
returns-clause-tree c = tiles_back

pub returns-clause-same : goal.returns-clause-same
returns-clause-same c = tree_back

pub returns-clause-nothing : goal.returns-clause-nothing
returns-clause-nothing c = none_described
