use Rattle.mb_tree.proofs.Common.{◌∙◌}
use Rattle.mb_tree.proofs.FileLemmas.{moved_read, one_read, reads_both}
use Rattle.mb_tree.proofs.packing.put_files.Goals as goal

pub loop-path-preserved : goal.loop-path-preserved
loop-path-preserved g c = record {
  kept = reads_both g.T.TileTree.told g.T.TileTree.tells g.T.TileTree.faults g.T.TileTree.steady c.args.tree.now c.loop-path.tree c.put_file.new.tree c.loop-path.invariant.kept c.put_file.ensures.kept;
  still = c.in_ok-put_file.ensures.fault.still ∙ c.loop-path.invariant.still;
  read =
      one_read c.args.scheme (g.T.TileTree.tells c.args.tree.now) (g.T.TileTree.told c.args.tree.now) c.args.paths.now c.loop-path.path-index c.path-item.result c.args.base c.loop-path.tiles c.put_file.new.tiles
      c.loop-path-test.true c.path-item.is c.loop-path.invariant.read
      (moved_read c.args.scheme _ _ _ _ c.path-item.result c.loop-path.tiles c.put_file.new.tiles c.loop-path.invariant.kept.tells c.loop-path.invariant.kept.told c.in_ok-put_file.ensures.put);
}
