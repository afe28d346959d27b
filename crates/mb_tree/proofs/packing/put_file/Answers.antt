use Rattle.mb_tree.proofs.Common.{ap, get, Place, sym, tile_path, with_tile, ◌∙◌}
use Rattle.mb_tree.proofs.FileLemmas.{passed, taken}
use Rattle.mb_tree.proofs.packing.put_file.Goals as goal

pub returns-in_default-clause-put : goal.returns-in_default-clause-put
returns-in_default-clause-put g c =
    passed c.args.scheme (g.T.TileTree.tells c.args.tree.now) (g.T.TileTree.told c.args.tree.now) c.args.path.now c.args.tiles.now c.requires.there (ap tile_path (sym c.as_str.ensures) ∙ (sym c.read_path.ensures ∙ c.in_default.is))

pub returns-clause-put : goal.returns-clause-put
returns-clause-put g c =
    taken c.args.scheme (g.T.TileTree.tells c.args.tree.now) (g.T.TileTree.told c.args.tree.now) c.args.path.now c.in_ok-bytes.bytes c.in-Some.tile c.args.tiles.now c.set_tile.new.self
    (ap tile_path (sym c.as_str.ensures) ∙ (sym c.read_path.ensures ∙ c.in-Some.is))
    (λ tells. ap (get (g.T.TileTree.told c.args.tree.now)) (sym c.as_str-2.ensures) ∙ c.in_ok-bytes.ensures.answer tells)
    (c.in_ok-set_tile.ensures.ok ∙ ap (λ (p : Place). with_tile c.args.tiles.now p c.in_ok-bytes.bytes) (c.coord_of.ensures c.in_ok-bytes.bytes))
