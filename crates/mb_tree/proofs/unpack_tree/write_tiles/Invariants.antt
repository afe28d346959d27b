-- the files of the tiles so far are written
use Rattle.mb_tree.proofs.Common.{entries, file_of, filter_map, Keeps, take, true, written, ◌≡◌}
use Rattle.mb_tree.proofs.unpack_tree.write_tiles.Given as goal

abbrev pub invariant-loop-index : goal.invariant-loop-index
invariant-loop-index g l = record {
  kept : Keeps g.T.TileTree.tells g.T.TileTree.faults g.T.TileTree.steady l.fn.tree l.tree;
  still : g.T.TileTree.faults l.tree ≡ g.T.TileTree.faults l.fn.tree;
  put : g.T.TileTree.tells l.fn.tree ≡ true → g.T.TileTree.told l.tree ≡ written (g.T.TileTree.told l.fn.tree) (filter_map (file_of l.fn.scheme l.fn.format) (take l.index (entries l.set.state.tiles)));
}
