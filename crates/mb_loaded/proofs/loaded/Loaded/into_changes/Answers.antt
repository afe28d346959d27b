use Rattle.mb_loaded.proofs.Common.{All, ap, AreChangesOf, AreLast, Change, content_table, false, filter_map, held_of, List, listed_change, Metadata, name_change, StoredTile, subst, sym, table_eq}
use Rattle.mb_loaded.proofs.Common.{tile_change, ℕ, ◌++◌, ◌∙◌, ◌≡◌}
use Rattle.mb_loaded.proofs.Covering.{are_changes, names_last, tiles_first}
use Rattle.mb_loaded.proofs.TakenLemmas.{listed_left}
use Rattle.mb_loaded.proofs.loaded.Loaded.into_changes.Goals as goal

pub add_tiles-requires-clause-last : goal.add_tiles-requires-clause-last
add_tiles-requires-clause-last c =
    subst (λ (ts : List StoredTile). AreLast ts c.deref-2.result.now) c.deref.ensures.value
    (subst (λ (ns : List ℕ). AreLast c.deref.result.now ns) (sym c.deref-2.ensures.value) c.in_ok-last.ensures)

pub add_contents-requires-clause-others : goal.add_contents-requires-clause-others
add_contents-requires-clause-others c =
    let l = c.self.inside in
    let i = c.self.invariant in
    let tiles : c.add_tiles.new.changes ≡ filter_map (tile_change l.layout l.algorithm l.contents.items.items) l.tiles.items.items = c.in_ok-add_tiles.ensures.changes in
    subst (All (λ (c : Change). table_eq c.table (content_table l.layout) ≡ false)) (sym tiles) (tiles_first l.layout l.algorithm l.patch_type l.contents.items.items l.contents.order.items l.tiles.items.items l.names.items.items i.0.apart i.2.apart i.3.apart i.1 i.4)

pub add_names-requires-clause-others : goal.add_names-requires-clause-others
add_names-requires-clause-others c =
    let l = c.self.inside in
    let i = c.self.invariant in
    let tiles : c.add_tiles.new.changes ≡ filter_map (tile_change l.layout l.algorithm l.contents.items.items) l.tiles.items.items = c.in_ok-add_tiles.ensures.changes in
    let moved : c.add_contents.new.changes ≡ c.add_tiles.new.changes ++ filter_map (listed_change l.layout c.add_tiles.new.contents.items) l.contents.order.items = rw (← c.deref-3.ensures.value) c.in_ok-add_contents.ensures in
    let ids = moved ∙ ap (λ cs. c.add_tiles.new.changes ++ cs) (listed_left l.contents.items.items c.add_tiles.new.contents.items c.in_ok-add_tiles.ensures.left l.layout l.contents.order.items i.5) in
    subst (All (λ (c : Change). table_eq c.table Metadata ≡ false)) (sym (ids ∙ ap (λ cs. cs ++ filter_map (listed_change l.layout l.contents.items.items) l.contents.order.items) tiles)) (names_last l.layout l.algorithm l.patch_type l.contents.items.items l.contents.order.items l.tiles.items.items l.names.items.items i.0.apart i.2.apart i.3.apart i.1 i.4)

pub returns : goal.returns
returns c =
    let l = c.self.inside in
    let i = c.self.invariant in
    let tiles : c.add_tiles.new.changes ≡ filter_map (tile_change l.layout l.algorithm l.contents.items.items) l.tiles.items.items = c.in_ok-add_tiles.ensures.changes in
    let moved : c.add_contents.new.changes ≡ c.add_tiles.new.changes ++ filter_map (listed_change l.layout c.add_tiles.new.contents.items) l.contents.order.items = rw (← c.deref-3.ensures.value) c.in_ok-add_contents.ensures in
    let ids = moved ∙ ap (λ cs. c.add_tiles.new.changes ++ cs) (listed_left l.contents.items.items c.add_tiles.new.contents.items c.in_ok-add_tiles.ensures.left l.layout l.contents.order.items i.5) in
    let names : c.add_names.new.changes ≡ c.add_contents.new.changes ++ filter_map name_change l.names.items.items = rw (← c.deref-4.ensures.value) c.in_ok-add_names.ensures in
    let both = ids ∙ ap (λ cs. cs ++ filter_map (listed_change l.layout l.contents.items.items) l.contents.order.items) tiles in
    rw (← c.self.view_is) (subst (AreChangesOf (held_of l.layout l.algorithm l.patch_type l.contents.items.items l.contents.order.items l.tiles.items.items l.names.items.items)) (sym (names ∙ ap (λ cs. cs ++ filter_map name_change l.names.items.items) both)) (are_changes l.layout l.algorithm l.patch_type l.contents.items.items l.contents.order.items l.tiles.items.items l.names.items.items i.0.apart i.2.apart i.3.apart i.1 i.4))
