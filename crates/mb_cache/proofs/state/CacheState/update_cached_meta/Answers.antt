use Rattle.mb_cache.proofs.Common.{ap, contents_of, coord_in, Entry, entry_of, is_some, List, option_map, place_at, ReplacesEntry, row_at, Some, subst, sym, Tables, true, ◌∙◌, ◌≡◌}
use Rattle.mb_cache.proofs.PutLemmas.{found_contents, found_entry, updates_entry}
use Rattle.mb_cache.proofs.state.CacheState.update_cached_meta.Goals as goal

pub put-requires-clause-found : goal.put-requires-clause-found
put-requires-clause-found g c t =
    let kept = c.in_ok-found.ensures.kept in
    let told : g.S.TileStore.tells c.args.store.now ≡ true = sym kept.tells ∙ t in
    let p = place_at c.in-Some.coord in
    c.entry_of_found-old.ensures
    ∙ (found_entry (g.S.TileStore.told c.args.store.now) c.args.self.now (c.requires told) (g.met.S.TileStore.sound c.args.store.now told) p (Some c.in-Some-2.found) (sym c.in-Some-2.is ∙ c.in_ok-found.ensures.answer told)
    ∙ ap (λ (x : Tables). option_map entry_of (row_at x p)) (sym kept.told))

pub put-requires-clause-contents : goal.put-requires-clause-contents
put-requires-clause-contents g c t =
    let told : g.S.TileStore.tells c.args.store.now ≡ true = sym c.in_ok-found.ensures.kept.tells ∙ t in
    ap (λ x. is_some (contents_of x)) c.contents_of-contents.ensures
    ∙ found_contents (g.S.TileStore.told c.args.store.now) c.args.self.now (c.requires told) (g.met.S.TileStore.sound c.args.store.now told) (place_at c.in-Some.coord) c.in-Some-2.found (sym c.in-Some-2.is ∙ c.in_ok-found.ensures.answer told)

pub returns-clause-own : goal.returns-clause-own
returns-clause-own g c =
    updates_entry (coord_in c.args.z c.args.x c.args.y) c.in-Some.coord c.args.meta c.in-Some-2.found c.entry_of_found-old.result c.args.self.now c.put.new.entries.keys
    (sym c.coord_in.ensures ∙ c.in-Some.is) c.entry_of_found-old.ensures
    (subst (λ (es : List Entry). ReplacesEntry (place_at c.in-Some.coord) c.args.meta.expires c.entry_of_found-old.result es c.put.new.entries.keys) c.self.view_is c.in_ok-put.ensures.own)
