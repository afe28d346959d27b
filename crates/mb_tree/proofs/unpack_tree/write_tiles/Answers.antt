use Rattle.mb_tree.proofs.Common.{arith, entries, file_of, files_of, IsFront, len-entries, ◌∙◌}
use Rattle.mb_tree.proofs.UnpackLemmas.{front_of, keeps_both, on_err, put_all, put_more}
use Rattle.mb_tree.proofs.unpack_tree.write_tiles.Goals as goal

pub loop-index-preserved : goal.loop-index-preserved
loop-index-preserved g c = record {
  kept = keeps_both g.T.TileTree.tells g.T.TileTree.faults g.T.TileTree.steady c.args.tree.now c.loop-index.tree c.write_tile.new.tree c.loop-index.invariant.kept c.write_tile.ensures.kept;
  still = c.in_ok-write_tile.ensures.fault.still ∙ c.loop-index.invariant.still;
  put = λ tells.
      put_more (file_of c.args.scheme c.args.format) (entries c.args.set.now.state.tiles) c.loop-index.index (g.T.TileTree.told c.args.tree.now) (g.T.TileTree.told c.loop-index.tree) (g.T.TileTree.told c.write_tile.new.tree)
      (omega (arith, len-entries c.args.set.now.state.tiles)) (c.loop-index.invariant.put tells) (c.in_ok-write_tile.ensures.put (c.loop-index.invariant.kept.tells ∙ tells));
}

pub returns-clause-put : goal.returns-clause-put
returns-clause-put g c tells =
    put_all (file_of c.args.scheme c.args.format) (entries c.args.set.now.state.tiles) c.loop-index.index (g.T.TileTree.told c.args.tree.now) (g.T.TileTree.told c.loop-index.tree)
    (omega (arith, len-entries c.args.set.now.state.tiles)) (c.loop-index.invariant.put tells)

pub returns-in_err-write_tile-clause-front : goal.returns-in_err-write_tile-clause-front
returns-in_err-write_tile-clause-front g c tells =
    on_err c.from_residual.result (IsFront (files_of c.args.scheme c.args.format c.args.set.now.state.tiles) (g.T.TileTree.told c.args.tree.now) (g.T.TileTree.told c.write_tile.new.tree))
    (front_of (file_of c.args.scheme c.args.format) (entries c.args.set.now.state.tiles) c.loop-index.index (g.T.TileTree.told c.args.tree.now) (g.T.TileTree.told c.write_tile.new.tree)
    (c.in_err-write_tile.ensures.refused ∙ c.loop-index.invariant.put tells))
