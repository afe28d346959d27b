use Rattle.tree_rows.proofs.Common.{reads_both}
use Rattle.tree_rows.proofs.trees.say_files.Goals as goal

pub loop-path-preserved : goal.loop-path-preserved
loop-path-preserved g c = reads_both g.T.TileTree.told g.T.TileTree.tells g.T.TileTree.faults g.T.TileTree.steady c.args.tree.now c.loop-path.tree c.say_file.new.tree c.loop-path.invariant c.say_file.ensures
