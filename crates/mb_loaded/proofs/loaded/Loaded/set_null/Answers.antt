use Rattle.mb_loaded.proofs.Common.{ap, Content, contents_of, Held, is_some, IsDated, IsTile, List, newest_tiles, place_at, place_cmp, place_of, places_antisymmetric, places_total, Put, refl}
use Rattle.mb_loaded.proofs.Common.{stands_from, StandsAs, StoredTile, subst, with_null, [], ◌++◌, ◌∙◌, ◌∷◌}
use Rattle.mb_loaded.proofs.EditViews.{all_from, kept_ids, put_dated, put_whole}
use Rattle.mb_loaded.proofs.PlacedViews.{more_in_order, null_placed}
use Rattle.mb_loaded.proofs.loaded.Loaded.set_null.Goals as goal

pub invariant_of-self-2 : goal.invariant_of-self-2
invariant_of-self-2 c =
    let l = c.self.inside in
    let i = c.self.invariant in
    let cs = c.add_content.new.contents.items in
    let put = c.put.new.self.items.items in
    let null = c.null_content.result in
    let tile : StoredTile = record { coord = c.args.coord; contents = c.in_ok-contents.contents; dates = c.in_ok-dates.dates; standing = Put } in
    let tiles = subst (λ (ts : List StoredTile). StandsAs place_cmp place_of (newest_tiles (ts ++ tile ∷ [])) put) c.reserve.ensures.items c.put.ensures.same in
    let more_tiles = l.tiles.items.items ++ tile ∷ [] in
    let from = stands_from places_total places_antisymmetric place_of more_tiles put tiles c.put.ensures.order.apart in (
      c.put.ensures.order,
      all_from (IsTile cs) more_tiles put (put_whole l.layout l.algorithm l.patch_type l.contents.items.items l.contents.order.items l.tiles.items.items l.names.items.items i.1 i.5 tile null cs more_tiles (ap (λ (x : Content). is_some (contents_of x.cell)) c.null_content.ensures) c.in_ok-contents.ensures.index c.in_ok-contents.ensures.contents refl) from,
      more_in_order l.contents.items.items cs null l.contents.live l.contents.order.items c.in_ok-contents.ensures.contents i.5 i.2,
      i.3,
      i.4,
      kept_ids l.layout l.algorithm l.patch_type l.contents.items.items l.contents.order.items l.tiles.items.items l.names.items.items i.1 i.5 null cs c.in_ok-contents.ensures.contents,
      all_from (IsDated l.layout) more_tiles put (put_dated l.layout l.algorithm l.patch_type l.contents.items.items l.contents.order.items l.tiles.items.items l.names.items.items i.1 i.5 tile more_tiles i.6 c.in_ok-dates.ensures refl) from,
    )

pub returns-clause-ok : goal.returns-clause-ok
returns-clause-ok c =
    let l = c.self.inside in
    let i = c.self.invariant in
    let cs = c.add_content.new.contents.items in
    let put = c.put.new.self.items.items in
    let null = c.null_content.result in
    let tile : StoredTile = record { coord = c.args.coord; contents = c.in_ok-contents.contents; dates = c.in_ok-dates.dates; standing = Put } in
    let tiles = subst (λ (ts : List StoredTile). StandsAs place_cmp place_of (newest_tiles (ts ++ tile ∷ [])) put) c.reserve.ensures.items c.put.ensures.same in
    let order = more_in_order l.contents.items.items cs null l.contents.live l.contents.order.items c.in_ok-contents.ensures.contents i.5 i.2 in
    null_placed l.layout l.algorithm l.patch_type l.contents.items.items l.contents.order.items l.tiles.items.items l.names.items.items i.2.apart i.0.apart i.3.apart i.1 i.5 c.args.coord null c.in_ok-contents.contents c.in_ok-dates.dates cs put c.null_content.ensures c.in_ok-contents.ensures.index c.in_ok-dates.ensures c.in_ok-contents.ensures.contents order.apart tiles c.put.ensures.order.apart
    ∙ ap (λ (h : Held). with_null h (place_at c.args.coord)) c.self.view_is
