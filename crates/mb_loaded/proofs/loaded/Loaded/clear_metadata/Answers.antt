use Rattle.mb_loaded.proofs.Common.{ap, Held, without_name, ◌∙◌}
use Rattle.mb_loaded.proofs.PlacedViews.{cleared_texts, name_cleared}
use Rattle.mb_loaded.proofs.loaded.Loaded.clear_metadata.Goals as goal

pub invariant_of-self : goal.invariant_of-self
invariant_of-self c =
    let l = c.self.inside in
    let i = c.self.invariant in (
      i.0,
      i.1,
      i.2,
      c.clear.ensures.order,
      cleared_texts l.layout l.algorithm l.patch_type l.contents.items.items l.contents.order.items l.tiles.items.items l.names.items.items i.2.apart i.0.apart i.3.apart l.names.live i.3 c.args.name.now c.clear.new.self.items.items i.4 c.clear.ensures.order.apart c.clear.ensures.cleared,
      i.5,
      i.6,
    )

pub returns : goal.returns
returns c =
    let l = c.self.inside in
    let i = c.self.invariant in
    name_cleared l.layout l.algorithm l.patch_type l.contents.items.items l.contents.order.items l.tiles.items.items l.names.items.items i.2.apart i.0.apart i.3.apart l.names.live i.3 c.args.name.now c.clear.new.self.items.items c.clear.ensures.order.apart c.clear.ensures.cleared
    ∙ ap (λ (h : Held). without_name h c.args.name.now) c.self.view_is
