-- the tree has the files that it had
use Rattle.mb_store.specs.Kept.{ReadsOnly}
use Rattle.tree_rows.proofs.trees.say_files.Given as goal

abbrev pub invariant-loop-path : goal.invariant-loop-path
invariant-loop-path g l = ReadsOnly g.T.TileTree.told g.T.TileTree.tells g.T.TileTree.faults g.T.TileTree.steady l.fn.tree l.tree
