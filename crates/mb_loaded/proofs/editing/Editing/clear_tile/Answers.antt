use Rattle.mb_loaded.proofs.Common.{ap, StoredTile, [], ◌++◌, ◌∙◌, ◌∷◌}
use Rattle.mb_loaded.proofs.EditViews.{gone_dated, gone_whole, held_gone}
use Rattle.mb_loaded.proofs.editing.Editing.clear_tile.Goals as goal

pub invariant_of-self-2 : goal.invariant_of-self-2
invariant_of-self-2 c =
    let l = c.self.inside in
    let i = c.self.invariant in
    let tiles = c.in_ok-push.ensures.items ∙ ap (λ (t : StoredTile). l.tiles.items ++ t ∷ []) c.mark.ensures in (
      gone_whole l.layout l.algorithm l.patch_type l.contents.items l.order.items l.tiles.items l.names.items c.args.coord c.push.new.self.items i.0 tiles,
      i.1,
      gone_dated l.layout l.algorithm l.patch_type l.contents.items l.order.items l.tiles.items l.names.items c.args.coord c.push.new.self.items i.2 tiles,
      i.3,
    )

pub returns-clause-ok : goal.returns-clause-ok
returns-clause-ok c =
    let l = c.self.inside in
    let tiles = c.in_ok-push.ensures.items ∙ ap (λ (t : StoredTile). l.tiles.items ++ t ∷ []) c.mark.ensures in
    rw (← c.self.view_is) (held_gone l.layout l.algorithm l.patch_type l.contents.items l.order.items l.tiles.items l.names.items c.args.coord c.push.new.self.items tiles)
