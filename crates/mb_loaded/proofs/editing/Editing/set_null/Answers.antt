use Rattle.mb_loaded.proofs.Common.{ap, Content, contents_of, is_some, List, Put, StoredTile, [], ◌++◌, ◌∙◌, ◌∷◌}
use Rattle.mb_loaded.proofs.EditViews.{kept_ids, null_view, put_dated, put_whole}
use Rattle.mb_loaded.proofs.editing.Editing.set_null.Goals as goal

pub invariant_of-self-2 : goal.invariant_of-self-2
invariant_of-self-2 c =
    let l = c.self.inside in
    let i = c.self.invariant in
    let null = c.null_content.result in
    let tile : StoredTile = record { coord = c.args.coord; contents = c.in_ok-contents.contents; dates = c.in_ok-dates.dates; standing = Put } in
    let tiles = c.push_reserved.ensures.items ∙ ap (λ (ts : List StoredTile). ts ++ tile ∷ []) c.reserve.ensures.items in (
      put_whole l.layout l.algorithm l.patch_type l.contents.items l.order.items l.tiles.items l.names.items i.0 i.1 tile null c.add_content.new.contents.items c.push_reserved.new.self.items (ap (λ (x : Content). is_some (contents_of x.cell)) c.null_content.ensures) c.in_ok-contents.ensures.index c.in_ok-contents.ensures.contents tiles,
      kept_ids l.layout l.algorithm l.patch_type l.contents.items l.order.items l.tiles.items l.names.items i.0 i.1 null c.add_content.new.contents.items c.in_ok-contents.ensures.contents,
      put_dated l.layout l.algorithm l.patch_type l.contents.items l.order.items l.tiles.items l.names.items i.0 i.1 tile c.push_reserved.new.self.items i.2 c.in_ok-dates.ensures tiles,
      i.3,
    )

pub returns-clause-ok : goal.returns-clause-ok
returns-clause-ok c =
    let l = c.self.inside in
    let i = c.self.invariant in
    let tile : StoredTile = record { coord = c.args.coord; contents = c.in_ok-contents.contents; dates = c.in_ok-dates.dates; standing = Put } in
    let tiles = c.push_reserved.ensures.items ∙ ap (λ (ts : List StoredTile). ts ++ tile ∷ []) c.reserve.ensures.items in
    rw (← c.self.view_is) (null_view l.layout l.algorithm l.patch_type l.contents.items l.order.items l.tiles.items l.names.items i.0 i.1 c.args.coord c.null_content.result c.in_ok-contents.contents c.in_ok-dates.dates c.add_content.new.contents.items c.push_reserved.new.self.items c.null_content.ensures c.in_ok-contents.ensures.index c.in_ok-dates.ensures c.in_ok-contents.ensures.contents tiles)
