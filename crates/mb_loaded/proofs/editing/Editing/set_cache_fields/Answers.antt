use Rattle.mb_loaded.proofs.Common.{ap, Cache, contains_key, Dates, Held, held_of, newest_ids, newest_names, newest_tiles, place_at, true, with_dates, ◌∙◌, ◌≡◌}
use Rattle.mb_loaded.proofs.DatedViews.{dated_dated, dated_view, dated_whole}
use Rattle.mb_loaded.proofs.editing.Editing.set_cache_fields.Goals as goal

pub invariant_of-self-2 : goal.invariant_of-self-2
invariant_of-self-2 c =
    let l = c.self.inside in
    let i = c.self.invariant in
    let d : Dates = record { fetched = c.args.fetched; expires = c.args.expires; etag = c.args.etag } in
    let cache : l.layout ≡ Cache = ap (λ (h : Held). h.state.layout) c.self.view_is ∙ c.requires.layout in
    let there : contains_key (held_of l.layout l.algorithm l.patch_type l.contents.items (newest_ids l.contents.items l.order.items) (newest_tiles l.tiles.items) (newest_names l.names.items)).state.tiles (place_at c.args.coord) ≡ true = ap (λ (h : Held). contains_key h.state.tiles (place_at c.args.coord)) c.self.view_is ∙ c.requires.there in (
      dated_whole l.layout l.algorithm l.patch_type l.contents.items l.order.items l.tiles.items l.names.items c.args.coord there c.in_ok-dates.dates c.push_dated.new.tiles.items i.0 c.in_ok-push_dated.ensures.ok,
      i.1,
      dated_dated l.layout l.algorithm l.patch_type l.contents.items l.order.items l.tiles.items l.names.items c.args.coord there d c.in_ok-dates.dates c.push_dated.new.tiles.items cache i.2 c.in_ok-dates.ensures c.in_ok-push_dated.ensures.ok,
      i.3,
    )

pub returns-clause-ok : goal.returns-clause-ok
returns-clause-ok c =
    let l = c.self.inside in
    let d : Dates = record { fetched = c.args.fetched; expires = c.args.expires; etag = c.args.etag } in
    let there : contains_key (held_of l.layout l.algorithm l.patch_type l.contents.items (newest_ids l.contents.items l.order.items) (newest_tiles l.tiles.items) (newest_names l.names.items)).state.tiles (place_at c.args.coord) ≡ true = ap (λ (h : Held). contains_key h.state.tiles (place_at c.args.coord)) c.self.view_is ∙ c.requires.there in
    dated_view l.layout l.algorithm l.patch_type l.contents.items l.order.items l.tiles.items l.names.items c.args.coord there d c.in_ok-dates.dates c.push_dated.new.tiles.items c.in_ok-dates.ensures c.in_ok-push_dated.ensures.ok
    ∙ ap (λ (h : Held). with_dates h (place_at c.args.coord) d) c.self.view_is
