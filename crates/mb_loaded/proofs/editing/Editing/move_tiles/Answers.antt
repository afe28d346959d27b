use Rattle.mb_loaded.proofs.Common.{All, ap, false, from_last, Held, id_of, ids_given, is_gone, IsTile, length, length-replicate, List, map, refl, StoredTile, subst, sym, take, tile_patched}
use Rattle.mb_loaded.proofs.Common.{tiles_copied, tiles_put, ◌∙◌, ◌≡◌}
use Rattle.mb_loaded.proofs.CopyLemmas.{dated_moved, ids_moved, no_copy, tiles_moved}
use Rattle.mb_loaded.proofs.GivenLemmas.{live_ids, live_tiles, live_whole, none_gone}
use Rattle.mb_loaded.proofs.MoveLemmas.{none_moved, same_held}
use Rattle.mb_loaded.proofs.editing.Editing.move_tiles.Goals as goal

pub move_tiles-requires-clause-copying : goal.move_tiles-requires-clause-copying
move_tiles-requires-clause-copying c =
    let l = c.self.inside in
    let o = c.other.inside in
    let room = c.make_room.new in
    record {
      whole = tiles_moved l.contents.items room.contents.items l.tiles.items room.tiles.items c.make_room.ensures.contents c.make_room.ensures.tiles c.self.invariant.0;
      ids = ids_moved l.contents.items room.contents.items l.order.items l.order.items c.make_room.ensures.contents refl c.self.invariant.1;
      dated = dated_moved l.layout l.layout l.tiles.items room.tiles.items refl c.make_room.ensures.tiles c.self.invariant.2;
      copies = no_copy o.contents.items.items (record { layout = l.layout; algorithm = l.algorithm; contents = room.contents; order = l.order; tiles = room.tiles; copies = c.in_ok-copies.copies }) c.len.result c.in_ok-copies.ensures;
      each = ap length c.in_ok-copies.ensures ∙ (length-replicate c.len.result 0 ∙ (c.len.ensures ∙ o.contents.items.ok.0));
    }

pub move_tiles-requires-clause-left : goal.move_tiles-requires-clause-left
move_tiles-requires-clause-left c = none_moved c.other.inside.contents.items.items c.in_ok-copies.copies.items c.len.result c.in_ok-copies.ensures

pub move_tiles-requires-clause-whole : goal.move_tiles-requires-clause-whole
move_tiles-requires-clause-whole c =
    let o = c.other.inside in
    subst (λ (ts : List StoredTile). All (IsTile o.contents.items.items) (take o.tiles.live ts)) (sym c.deref.ensures.value) (live_whole o.contents.items.items o.tiles.live o.tiles.items.items c.other.invariant.0 c.other.invariant.1)

pub move_tiles-requires-clause-live : goal.move_tiles-requires-clause-live
move_tiles-requires-clause-live c =
    let o = c.other.inside in
    subst (λ (ts : List StoredTile). All (λ (t : StoredTile). is_gone t ≡ false) (take o.tiles.live ts)) (sym c.deref.ensures.value) (none_gone o.contents.items.items o.tiles.live o.tiles.items.items c.other.invariant.0 c.other.invariant.1)

pub move_tiles-requires-clause-ids : goal.move_tiles-requires-clause-ids
move_tiles-requires-clause-ids c =
    let l = c.self.inside in
    let o = c.other.inside in
    c.requires
    ∙ (ap (λ (h : Held). ids_given h.state.layout h.state.algorithm c.args.other.state.tiles) (sym c.self.view_is)
    ∙ (ap (λ (h : Held). ids_given l.layout l.algorithm h.state.tiles) (sym c.other.view_is)
    ∙ (live_ids o.contents.items.items o.tiles.live o.tiles.items.items c.other.invariant.0 c.other.invariant.1 l.layout l.algorithm
    ∙ ap (λ (ts : List StoredTile). map (id_of l.layout l.algorithm o.contents.items.items) (take o.tiles.live ts)) (sym c.deref.ensures.value))))

pub returns : goal.returns
returns c =
    let l = c.self.inside in
    let o = c.other.inside in
    let room = c.make_room.new in
    c.in_ok-move_tiles.ensures.edits.held l.patch_type l.names.items
    ∙ (ap (tiles_copied o.contents.items.items (take o.tiles.live c.deref.result.now)) (same_held l.layout l.algorithm l.patch_type l.contents.items room.contents.items l.order.items l.tiles.items room.tiles.items l.names.items c.make_room.ensures.contents c.make_room.ensures.tiles ∙ c.self.view_is)
    ∙ (ap (λ (ts : List StoredTile). tiles_copied o.contents.items.items (take o.tiles.live ts) c.args.self) c.deref.ensures.value
    ∙ (ap (from_last tile_patched c.args.self) (sym (live_tiles o.contents.items.items o.tiles.live o.tiles.items.items c.other.invariant.0 c.other.invariant.1))
    ∙ ap (λ (h : Held). tiles_put c.args.self h.state.tiles) c.other.view_is)))
