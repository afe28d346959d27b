use Rattle.mb_loaded.proofs.Common.{All, ap, AreChangesOf, Change, content_table, false, filter_map, held_of, listed_change, Metadata, name_change, subst, sym, table_eq, tile_change, ◌++◌, ◌∙◌, ◌≡◌}
use Rattle.mb_loaded.proofs.Covering.{are_changes, names_last, tiles_first}
use Rattle.mb_loaded.proofs.loaded.Loaded.changes.Goals as goal

pub add_contents-requires-clause-others : goal.add_contents-requires-clause-others
add_contents-requires-clause-others c =
    let l = c.self.inside in
    let i = c.self.invariant in
    let tiles : c.add_tiles.new.changes ≡ filter_map (tile_change l.layout l.algorithm l.contents.items.items) l.tiles.items.items = rw (← c.deref.ensures.value, ← c.deref-2.ensures.value) c.in_ok-add_tiles.ensures in
    subst (All (λ (c : Change). table_eq c.table (content_table l.layout) ≡ false)) (sym tiles) (tiles_first l.layout l.algorithm l.patch_type l.contents.items.items l.contents.order.items l.tiles.items.items l.names.items.items i.0.apart i.2.apart i.3.apart i.1 i.4)

pub add_names-requires-clause-others : goal.add_names-requires-clause-others
add_names-requires-clause-others c =
    let l = c.self.inside in
    let i = c.self.invariant in
    let tiles : c.add_tiles.new.changes ≡ filter_map (tile_change l.layout l.algorithm l.contents.items.items) l.tiles.items.items = rw (← c.deref.ensures.value, ← c.deref-2.ensures.value) c.in_ok-add_tiles.ensures in
    let ids : c.add_contents.new.changes ≡ c.add_tiles.new.changes ++ filter_map (listed_change l.layout l.contents.items.items) l.contents.order.items = rw (← c.deref-3.ensures.value, ← c.deref-4.ensures.value) c.in_ok-add_contents.ensures in
    subst (All (λ (c : Change). table_eq c.table Metadata ≡ false)) (sym (ids ∙ ap (λ cs. cs ++ filter_map (listed_change l.layout l.contents.items.items) l.contents.order.items) tiles)) (names_last l.layout l.algorithm l.patch_type l.contents.items.items l.contents.order.items l.tiles.items.items l.names.items.items i.0.apart i.2.apart i.3.apart i.1 i.4)

pub returns : goal.returns
returns c =
    let l = c.self.inside in
    let i = c.self.invariant in
    let tiles : c.add_tiles.new.changes ≡ filter_map (tile_change l.layout l.algorithm l.contents.items.items) l.tiles.items.items = rw (← c.deref.ensures.value, ← c.deref-2.ensures.value) c.in_ok-add_tiles.ensures in
    let ids : c.add_contents.new.changes ≡ c.add_tiles.new.changes ++ filter_map (listed_change l.layout l.contents.items.items) l.contents.order.items = rw (← c.deref-3.ensures.value, ← c.deref-4.ensures.value) c.in_ok-add_contents.ensures in
    let names : c.add_names.new.changes ≡ c.add_contents.new.changes ++ filter_map name_change l.names.items.items = rw (← c.deref-5.ensures.value) c.in_ok-add_names.ensures in
    let both = ids ∙ ap (λ cs. cs ++ filter_map (listed_change l.layout l.contents.items.items) l.contents.order.items) tiles in
    rw (← c.self.view_is) (subst (AreChangesOf (held_of l.layout l.algorithm l.patch_type l.contents.items.items l.contents.order.items l.tiles.items.items l.names.items.items)) (sym (names ∙ ap (λ cs. cs ++ filter_map name_change l.names.items.items) both)) (are_changes l.layout l.algorithm l.patch_type l.contents.items.items l.contents.order.items l.tiles.items.items l.names.items.items i.0.apart i.2.apart i.3.apart i.1 i.4))
