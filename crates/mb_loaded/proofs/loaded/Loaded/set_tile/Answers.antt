use Rattle.mb_loaded.proofs.Common.{All, ap, AreContentsInOrder, Blob, cell_cmp, cell_cmp-IsAntisymmetric, cells_total, Content, HasId, Held, held_of, id_at, IsDated, IsTile, List, listed, newest_ids}
use Rattle.mb_loaded.proofs.Common.{newest_tiles, place_at, place_cmp, place_of, places_antisymmetric, places_total, Put, refl, stands_from, StandsAs, StoredTile, subst, sym, with_tile, ℕ, [], ◌++◌}
use Rattle.mb_loaded.proofs.Common.{◌∙◌, ◌∷◌, ◌≡◌}
use Rattle.mb_loaded.proofs.EditViews.{all_from, put_dated, put_ids, put_whole}
use Rattle.mb_loaded.proofs.PlacedViews.{more_in_order, new_live, put_placed}
use Rattle.mb_loaded.proofs.loaded.Loaded.set_tile.Goals as goal

pub list-requires-clause-order : goal.list-requires-clause-order
list-requires-clause-order c =
    let l = c.self.inside in
    let i = c.self.invariant in
    let cs = c.add_content.new.contents.items in
    subst (λ (o : List ℕ). AreContentsInOrder cs l.contents.live o) (sym c.reserve.ensures.items) (more_in_order l.contents.items.items cs (record { id = c.in_ok-id.id; cell = Blob c.args.bytes; standing = Put }) l.contents.live l.contents.order.items c.in_ok-contents.ensures.contents i.5 i.2)

pub list-requires-clause-live : goal.list-requires-clause-live
list-requires-clause-live c = new_live c.self.inside.contents.items.items c.add_content.new.contents.items (record { id = c.in_ok-id.id; cell = Blob c.args.bytes; standing = Put }) c.in_ok-contents.contents c.in_ok-contents.ensures.contents c.in_ok-contents.ensures.index refl

pub invariant_of-self-2 : goal.invariant_of-self-2
invariant_of-self-2 c =
    let l = c.self.inside in
    let i = c.self.invariant in
    let cs = c.add_content.new.contents.items in
    let ids = c.list.new.self.order.items in
    let put = c.put.new.self.items.items in
    let kept : c.list.new.self.items.items ≡ cs = λ k. (c.list.ensures.items k).items in
    let tile : StoredTile = record { coord = c.args.coord; contents = c.in_ok-contents.contents; dates = c.in_ok-dates.dates; standing = Put } in
    let order = subst (λ (o : List ℕ). StandsAs cell_cmp (id_at cs) (newest_ids cs (o ++ listed c.is_null-is_null.result c.in_ok-contents.contents)) ids) c.reserve.ensures.items c.list.ensures.same in
    let tiles = subst (λ (ts : List StoredTile). StandsAs place_cmp place_of (newest_tiles (ts ++ tile ∷ [])) put) c.reserve-2.ensures.items c.put.ensures.same in
    let more_ids = l.contents.order.items ++ listed c.is_null-is_null.result c.in_ok-contents.contents in
    let more_tiles = l.tiles.items.items ++ tile ∷ [] in (
      c.put.ensures.order,
      subst (λ (z : List Content). All (IsTile z) put) (sym kept) (all_from (IsTile cs) more_tiles put (put_whole l.layout l.algorithm l.patch_type l.contents.items.items l.contents.order.items l.tiles.items.items l.names.items.items i.1 i.5 tile (record { id = c.in_ok-id.id; cell = Blob c.args.bytes; standing = Put }) cs more_tiles refl c.in_ok-contents.ensures.index c.in_ok-contents.ensures.contents refl) (stands_from places_total places_antisymmetric place_of more_tiles put tiles c.put.ensures.order.apart)),
      subst (λ (z : List Content). AreContentsInOrder z c.list.new.self.live ids) (sym kept) c.list.ensures.order,
      i.3,
      i.4,
      subst (λ (z : List Content). All (HasId z) ids) (sym kept) (all_from (HasId cs) more_ids ids (put_ids l.layout l.algorithm l.patch_type l.contents.items.items l.contents.order.items l.tiles.items.items l.names.items.items i.1 i.5 c.args.bytes c.in_ok-id.id c.is_null-is_null.result c.in_ok-contents.contents cs more_ids c.is_null-is_null.ensures c.in_ok-contents.ensures.index c.in_ok-contents.ensures.contents refl) (stands_from cells_total cell_cmp-IsAntisymmetric (id_at cs) more_ids ids order c.list.ensures.order.apart)),
      all_from (IsDated l.layout) more_tiles put (put_dated l.layout l.algorithm l.patch_type l.contents.items.items l.contents.order.items l.tiles.items.items l.names.items.items i.1 i.5 tile more_tiles i.6 c.in_ok-dates.ensures refl) (stands_from places_total places_antisymmetric place_of more_tiles put tiles c.put.ensures.order.apart),
    )

pub returns-clause-ok : goal.returns-clause-ok
returns-clause-ok c =
    let l = c.self.inside in
    let i = c.self.invariant in
    let cs = c.add_content.new.contents.items in
    let ids = c.list.new.self.order.items in
    let put = c.put.new.self.items.items in
    let kept : c.list.new.self.items.items ≡ cs = λ k. (c.list.ensures.items k).items in
    let tile : StoredTile = record { coord = c.args.coord; contents = c.in_ok-contents.contents; dates = c.in_ok-dates.dates; standing = Put } in
    let order = subst (λ (o : List ℕ). StandsAs cell_cmp (id_at cs) (newest_ids cs (o ++ listed c.is_null-is_null.result c.in_ok-contents.contents)) ids) c.reserve.ensures.items c.list.ensures.same in
    let tiles = subst (λ (ts : List StoredTile). StandsAs place_cmp place_of (newest_tiles (ts ++ tile ∷ [])) put) c.reserve-2.ensures.items c.put.ensures.same in
    ap (λ (z : List Content). held_of l.layout l.algorithm l.patch_type z ids put l.names.items.items) kept
    ∙ (put_placed l.layout l.algorithm l.patch_type l.contents.items.items l.contents.order.items l.tiles.items.items l.names.items.items i.2.apart i.0.apart i.3.apart i.1 i.5 c.args.coord c.args.bytes c.as_bytes.result.now c.in_ok-id.id c.is_null-is_null.result c.in_ok-contents.contents c.in_ok-dates.dates cs ids put c.as_bytes.ensures c.in_ok-id.ensures c.is_null-is_null.ensures c.in_ok-contents.ensures.index c.in_ok-dates.ensures c.in_ok-contents.ensures.contents order c.list.ensures.order.apart tiles c.put.ensures.order.apart
    ∙ ap (λ (h : Held). with_tile h (place_at c.args.coord) c.args.bytes) c.self.view_is)
