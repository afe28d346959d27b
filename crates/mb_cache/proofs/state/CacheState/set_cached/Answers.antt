use Rattle.mb_cache.proofs.Common.{ap, Cell, cell_at, coord_in, Entry, entry_at, entry_of, List, old_entry, OnOk, option_map, place_at, ReplacesEntry, row_at, subst, sym, Tables, true, ◌∙◌, ◌≡◌}
use Rattle.mb_store.proofs.FaultLemmas.{counted_then}
use Rattle.mb_cache.proofs.PutLemmas.{found_entry, sets, sets_entry}
use Rattle.mb_cache.proofs.state.CacheState.set_cached.Goals as goal

pub put-requires-clause-found : goal.put-requires-clause-found
put-requires-clause-found g c t =
    let kept = c.in_ok-found.ensures.kept in
    let told : g.S.TileStore.tells c.args.store.now ≡ true = sym kept.tells ∙ t in
    let p = place_at c.in-Some.coord in
    c.entry_of_found-old.ensures ∙ (ap (option_map (λ (row : List Cell). entry_at p (cell_at 4 row))) c.as_ref.ensures.value
    ∙ (found_entry (g.S.TileStore.told c.args.store.now) c.args.self.now (c.requires told) (g.met.S.TileStore.sound c.args.store.now told) p c.in_ok-found.found (c.in_ok-found.ensures.answer told)
    ∙ ap (λ (x : Tables). option_map entry_of (row_at x p)) (sym kept.told)))

pub returns-clause-set : goal.returns-clause-set
returns-clause-set g c t =
    let kept = c.in_ok-found.ensures.kept in
    sets (coord_in c.args.z c.args.x c.args.y) c.in-Some.coord c.args.meta (g.S.TileStore.told c.args.store.now) (g.S.TileStore.told c.find_row.new.store) (g.S.TileStore.told c.put.new.store) c.args.bytes.now c.new.result c.put.result
    (sym c.coord_in.ensures ∙ c.in-Some.is) kept.told (c.new.ensures ∙ c.in_ok-from_slice.ensures.items) (c.put.ensures.put (kept.tells ∙ t))

pub returns-clause-own : goal.returns-clause-own
returns-clause-own g c =
    sets_entry (coord_in c.args.z c.args.x c.args.y) c.in-Some.coord c.args.meta c.in_ok-found.found c.entry_of_found-old.result c.args.self.now c.put.new.entries.keys c.put.result
    (sym c.coord_in.ensures ∙ c.in-Some.is) (c.entry_of_found-old.ensures ∙ ap (old_entry (place_at c.in-Some.coord)) c.as_ref.ensures.value)
    (subst (λ (es : List Entry). OnOk c.put.result (ReplacesEntry (place_at c.in-Some.coord) c.args.meta.expires c.entry_of_found-old.result es c.put.new.entries.keys)) c.self.view_is c.put.ensures.own)

pub returns-clause-fault : goal.returns-clause-fault
returns-clause-fault g c = counted_then _ _ _ _ _ _ c.in_ok-found.ensures.fault.still c.put.ensures.fault
