use Rattle.mb_loaded.proofs.Common.{ap, Cache, contains_key, Dates, Held, IsDated, IsTile, place_at, with_dates, ◌∙◌, ◌≡◌}
use Rattle.mb_loaded.proofs.DatedLemmas.{times_stay}
use Rattle.mb_loaded.proofs.PlacedViews.{redated_all, tile_redated}
use Rattle.mb_loaded.proofs.loaded.Loaded.set_cache_fields.Goals as goal

pub invariant_of-self : goal.invariant_of-self
invariant_of-self c =
    let l = c.self.inside in
    let i = c.self.invariant in
    let d : Dates = record { fetched = c.args.fetched; expires = c.args.expires; etag = c.args.etag } in (
      c.redate.ensures.order,
      redated_all l.layout l.algorithm l.patch_type l.contents.items.items l.contents.order.items l.tiles.items.items l.names.items.items i.2.apart i.0.apart i.3.apart l.tiles.live i.0 i.1 c.args.coord (IsTile l.contents.items.items) d (λ t live h new. h live) i.1 c.redate.new.self.items.items c.redate.ensures.order.apart c.redate.ensures.dated,
      i.2,
      i.3,
      i.4,
      i.5,
      redated_all l.layout l.algorithm l.patch_type l.contents.items.items l.contents.order.items l.tiles.items.items l.names.items.items i.2.apart i.0.apart i.3.apart l.tiles.live i.0 i.1 c.args.coord (IsDated l.layout) d (λ t live h new. times_stay d t.dates ∙ h live) i.6 c.redate.new.self.items.items c.redate.ensures.order.apart c.redate.ensures.dated,
    )

pub returns : goal.returns
returns c =
    let l = c.self.inside in
    let i = c.self.invariant in
    let d : Dates = record { fetched = c.args.fetched; expires = c.args.expires; etag = c.args.etag } in
    let cache : l.layout ≡ Cache = ap (λ (h : Held). h.state.layout) c.self.view_is ∙ c.requires.layout in
    tile_redated l.layout l.algorithm l.patch_type l.contents.items.items l.contents.order.items l.tiles.items.items l.names.items.items i.2.apart i.0.apart i.3.apart l.tiles.live i.0 i.1 c.args.coord d c.redate.new.self.items.items cache i.6 (ap (λ (h : Held). contains_key h.state.tiles (place_at c.args.coord)) c.self.view_is ∙ c.requires.there) c.redate.ensures.order.apart c.redate.ensures.dated
    ∙ ap (λ (h : Held). with_dates h (place_at c.args.coord) d) c.self.view_is
