use Rattle.mb_loaded.proofs.Common.{ap, false≢true, Held, IsDated, IsTile, place_at, sym, without_tile, ◌∙◌}
use Rattle.mb_loaded.proofs.PlacedViews.{cleared_all, tile_cleared}
use Rattle.mb_loaded.proofs.loaded.Loaded.clear_tile.Goals as goal

pub invariant_of-self : goal.invariant_of-self
invariant_of-self c =
    let l = c.self.inside in
    let i = c.self.invariant in (
      c.clear.ensures.order,
      cleared_all l.layout l.algorithm l.patch_type l.contents.items.items l.contents.order.items l.tiles.items.items l.names.items.items i.2.apart i.0.apart i.3.apart l.tiles.live i.0 i.1 c.args.coord (IsTile l.contents.items.items) (λ live. absurd (false≢true (sym live))) i.1 c.clear.new.self.items.items c.clear.ensures.order.apart c.clear.ensures.cleared,
      i.2,
      i.3,
      i.4,
      i.5,
      cleared_all l.layout l.algorithm l.patch_type l.contents.items.items l.contents.order.items l.tiles.items.items l.names.items.items i.2.apart i.0.apart i.3.apart l.tiles.live i.0 i.1 c.args.coord (IsDated l.layout) (λ live. absurd (false≢true (sym live))) i.6 c.clear.new.self.items.items c.clear.ensures.order.apart c.clear.ensures.cleared,
    )

pub returns : goal.returns
returns c =
    let l = c.self.inside in
    let i = c.self.invariant in
    tile_cleared l.layout l.algorithm l.patch_type l.contents.items.items l.contents.order.items l.tiles.items.items l.names.items.items i.2.apart i.0.apart i.3.apart l.tiles.live i.0 i.1 c.args.coord c.clear.new.self.items.items c.clear.ensures.order.apart c.clear.ensures.cleared
    ∙ ap (λ (h : Held). without_tile h (place_at c.args.coord)) c.self.view_is
