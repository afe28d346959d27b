use Rattle.mb_loaded.proofs.Common.{ap, Blob, List, listed, Put, refl, StoredTile, ℕ, [], ◌++◌, ◌∙◌, ◌∷◌}
use Rattle.mb_loaded.proofs.EditViews.{put_dated, put_ids, put_view, put_whole}
use Rattle.mb_loaded.proofs.editing.Editing.set_tile.Goals as goal

pub invariant_of-self-2 : goal.invariant_of-self-2
invariant_of-self-2 c =
    let l = c.self.inside in
    let i = c.self.invariant in
    let order = c.list_id.ensures ∙ ap (λ (o : List ℕ). o ++ listed c.is_null-is_null.result c.in_ok-contents.contents) c.reserve.ensures.items in
    let tile : StoredTile = record { coord = c.args.coord; contents = c.in_ok-contents.contents; dates = c.in_ok-dates.dates; standing = Put } in
    let tiles = c.push_reserved.ensures.items ∙ ap (λ (ts : List StoredTile). ts ++ tile ∷ []) c.reserve-2.ensures.items in (
      put_whole l.layout l.algorithm l.patch_type l.contents.items l.order.items l.tiles.items l.names.items i.0 i.1 tile (record { id = c.in_ok-id.id; cell = Blob c.args.bytes; standing = Put }) c.add_content.new.contents.items c.push_reserved.new.self.items refl c.in_ok-contents.ensures.index c.in_ok-contents.ensures.contents tiles,
      put_ids l.layout l.algorithm l.patch_type l.contents.items l.order.items l.tiles.items l.names.items i.0 i.1 c.args.bytes c.in_ok-id.id c.is_null-is_null.result c.in_ok-contents.contents c.add_content.new.contents.items c.list_id.new.order.items c.is_null-is_null.ensures c.in_ok-contents.ensures.index c.in_ok-contents.ensures.contents order,
      put_dated l.layout l.algorithm l.patch_type l.contents.items l.order.items l.tiles.items l.names.items i.0 i.1 tile c.push_reserved.new.self.items i.2 c.in_ok-dates.ensures tiles,
      i.3,
    )

pub returns-clause-ok : goal.returns-clause-ok
returns-clause-ok c =
    let l = c.self.inside in
    let i = c.self.invariant in
    let order = c.list_id.ensures ∙ ap (λ (o : List ℕ). o ++ listed c.is_null-is_null.result c.in_ok-contents.contents) c.reserve.ensures.items in
    let tile : StoredTile = record { coord = c.args.coord; contents = c.in_ok-contents.contents; dates = c.in_ok-dates.dates; standing = Put } in
    let tiles = c.push_reserved.ensures.items ∙ ap (λ (ts : List StoredTile). ts ++ tile ∷ []) c.reserve-2.ensures.items in
    rw (← c.self.view_is) (put_view l.layout l.algorithm l.patch_type l.contents.items l.order.items l.tiles.items l.names.items i.0 i.1 c.args.coord c.args.bytes c.as_bytes.result.now c.in_ok-id.id c.is_null-is_null.result c.in_ok-contents.contents c.in_ok-dates.dates c.add_content.new.contents.items c.list_id.new.order.items c.push_reserved.new.self.items c.as_bytes.ensures c.in_ok-id.ensures c.is_null-is_null.ensures c.in_ok-contents.ensures.index c.in_ok-dates.ensures c.in_ok-contents.ensures.contents order tiles)
