use Rattle.mb_tree.proofs.Common.{arith, len-entries, rules, ◌∙◌}
use Rattle.mb_tree.proofs.UnpackLemmas.{wrote}
use Rattle.mb_tree.proofs.unpack_tree.write_tile.Goals as goal

pub returns-in_ok-path-in-Blob-clause-put : goal.returns-in_ok-path-in-Blob-clause-put
returns-in_ok-path-in-Blob-clause-put g c tells =
    wrote c.write.result c.args.scheme c.args.format c.args.set.now.state.tiles c.args.index (g.T.TileTree.told c.args.tree.now) (g.T.TileTree.told c.write.new.self)
    c.tile_at-coord.result.0 c.tile_at-coord.result.1.now c.as_str.result.now c.as_bytes.result.now
    (omega (arith, len-entries c.args.set.now.state.tiles, c.requires)) c.path_of.ensures.within c.tile_at-coord.ensures (search rules) (c.as_str.ensures.value ∙ c.in_ok-path-in-Blob.ensures.path)
    (c.write.ensures.ok tells)
