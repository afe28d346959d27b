use Rattle.mb_loaded.proofs.Common.{ap, Content, from_last, Held, id_of, ids_given, List, map, StoredTile, sym, take, tile_patched, tiles_copied, tiles_put, ◌∙◌}
use Rattle.mb_loaded.proofs.GivenLemmas.{live_ids, live_tiles}
use Rattle.mb_loaded.proofs.editing.Editing.put_tiles.Goals as goal

pub copy_tiles-requires-clause-ids : goal.copy_tiles-requires-clause-ids
copy_tiles-requires-clause-ids c =
    let l = c.self.inside in
    let o = c.other.inside in
    c.requires
    ∙ (ap (λ (h : Held). ids_given h.state.layout h.state.algorithm c.args.other.now.state.tiles) (sym c.self.view_is)
    ∙ (ap (λ (h : Held). ids_given l.layout l.algorithm h.state.tiles) (sym c.other.view_is)
    ∙ (live_ids o.contents.items.items o.tiles.live o.tiles.items.items c.other.invariant.0 c.other.invariant.1 l.layout l.algorithm
    ∙ (ap (λ (cs : List Content). map (id_of l.layout l.algorithm cs) (take o.tiles.live o.tiles.items.items)) (sym c.deref-2.ensures.value)
    ∙ ap (λ (ts : List StoredTile). map (id_of l.layout l.algorithm c.deref-2.result.now) (take o.tiles.live ts)) (sym c.deref.ensures.value)))))

pub returns : goal.returns
returns c =
    let l = c.self.inside in
    let o = c.other.inside in
    c.in_ok-copy_tiles.ensures.edits.held l.patch_type l.names.items
    ∙ (ap (tiles_copied c.deref-2.result.now (take o.tiles.live c.deref.result.now)) c.self.view_is
    ∙ (ap (λ (cs : List Content). tiles_copied cs (take o.tiles.live c.deref.result.now) c.args.self) c.deref-2.ensures.value
    ∙ (ap (λ (ts : List StoredTile). tiles_copied o.contents.items.items (take o.tiles.live ts) c.args.self) c.deref.ensures.value
    ∙ (ap (from_last tile_patched c.args.self) (sym (live_tiles o.contents.items.items o.tiles.live o.tiles.items.items c.other.invariant.0 c.other.invariant.1))
    ∙ ap (λ (h : Held). tiles_put c.args.self h.state.tiles) c.other.view_is))))
