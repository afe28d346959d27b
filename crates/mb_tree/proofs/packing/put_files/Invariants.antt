-- the files of the paths so far are read, and their tiles put
use Rattle.mb_tree.proofs.Common.{AreAllRead, ReadsOnly, take, ◌≡◌}
use Rattle.mb_tree.proofs.packing.put_files.Given as goal

abbrev pub invariant-loop-path : goal.invariant-loop-path
invariant-loop-path g l = record {
  kept : ReadsOnly g.T.TileTree.told g.T.TileTree.tells g.T.TileTree.faults g.T.TileTree.steady l.fn.tree l.tree;
  still : g.T.TileTree.faults l.tree ≡ g.T.TileTree.faults l.fn.tree;
  read : AreAllRead l.fn.scheme (g.T.TileTree.tells l.fn.tree) (g.T.TileTree.told l.fn.tree) (take l.path-index l.paths) l.fn.base l.tiles;
}
