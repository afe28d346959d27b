use Rattle.mb_loaded.proofs.Common.{All, ap, Cell, content_id, Held, ids_at, ids_given, length, length-map, List, map, StoredTile, subst, sym, take, ℕ, ◌<◌, ◌∙◌, ◌≡◌}
use Rattle.mb_loaded.proofs.GivenLemmas.{ids_found, live_ids, live_within}
use Rattle.mb_loaded.proofs.loaded.Loaded.ids_for.Goals as goal

pub invariant_of-result : goal.invariant_of-result
invariant_of-result c =
    let l = c.self.inside in
    let contents = l.contents.items.items in
    let many : length c.in_ok-ids.ids.items ≡ length contents = ap length c.in_ok-ids.ensures ∙ (length-map c.deref.result.now (content_id c.args.layout c.args.algorithm) ∙ ap length c.deref.ensures.value) in
    let tiles : c.in_ok-tiles.tiles.items ≡ map (λ (t : StoredTile). t.contents) (take l.tiles.live l.tiles.items.items) = c.in_ok-tiles.ensures ∙ ap (λ (ts : List StoredTile). map (λ (t : StoredTile). t.contents) (take l.tiles.live ts)) c.deref-2.ensures.value in
    subst (λ (n : ℕ). All (λ i. i < n) c.in_ok-tiles.tiles.items) (sym many)
    (subst (λ (is : List ℕ). All (λ i. i < length contents) is) (sym tiles) (live_within contents l.tiles.live l.tiles.items.items c.self.invariant.0 c.self.invariant.1))

pub returns : goal.returns
returns c =
    let l = c.self.inside in
    let contents = l.contents.items.items in
    let ids : c.in_ok-ids.ids.items ≡ map (content_id c.args.layout c.args.algorithm) contents = c.in_ok-ids.ensures ∙ ap (map (content_id c.args.layout c.args.algorithm)) c.deref.ensures.value in
    let tiles : c.in_ok-tiles.tiles.items ≡ map (λ (t : StoredTile). t.contents) (take l.tiles.live l.tiles.items.items) = c.in_ok-tiles.ensures ∙ ap (λ (ts : List StoredTile). map (λ (t : StoredTile). t.contents) (take l.tiles.live ts)) c.deref-2.ensures.value in
    ap (λ (is : List Cell). ids_at is c.in_ok-tiles.tiles.items) ids
    ∙ (ap (ids_at (map (content_id c.args.layout c.args.algorithm) contents)) tiles
    ∙ (ids_found c.args.layout c.args.algorithm contents (take l.tiles.live l.tiles.items.items)
    ∙ (sym (live_ids contents l.tiles.live l.tiles.items.items c.self.invariant.0 c.self.invariant.1 c.args.layout c.args.algorithm)
    ∙ ap (λ (h : Held). ids_given c.args.layout c.args.algorithm h.state.tiles) c.self.view_is)))
