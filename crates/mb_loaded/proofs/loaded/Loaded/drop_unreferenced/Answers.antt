use Rattle.mb_loaded.proofs.Common.{All, ap, Apart, apart_permuted, AreContentsInOrder, cell_cmp, Content, HasId, held_of, id_at, IsPermutation-trans, IsTile, length, like_all, List, marked_unnamed}
use Rattle.mb_loaded.proofs.Common.{only_referenced, place_of, places_total, subst, sym, take, with_items, with_items_is, ◌∙◌, ◌≡◌}
use Rattle.mb_loaded.proofs.DroppedHeld.{apart_left, dated_left, held_dropped, ids_left, tiles_left}
use Rattle.mb_loaded.proofs.loaded.Loaded.drop_unreferenced.Goals as goal

pub settle-contents-requires : goal.settle-contents-requires
settle-contents-requires c =
    let l = c.self.inside in
    let i = c.self.invariant in
    let s = c.sort_named-live in
    let made : c.mark_all.new.contents ≡ marked_unnamed (take s.result s.new.tiles.items) l.contents.items.items l.contents.order.items = c.mark_all.ensures ∙ (λ k. marked_unnamed (take s.result (c.deref-3.ensures.value k)) (c.deref_mut.ensures.value k) (c.deref-2.ensures.value k)) in
    let len : length c.mark_all.new.contents ≡ l.contents.items.len = ap length made ∙ ((like_all (take s.result s.new.tiles.items) l.contents.items.items l.contents.order.items).len ∙ sym l.contents.items.ok.0) in
    let stored : (with_items l.contents.items c.mark_all.new.contents).items ≡ marked_unnamed (take s.result s.new.tiles.items) l.contents.items.items l.contents.order.items = with_items_is l.contents.items c.mark_all.new.contents len ∙ made in
    subst (λ (cs : List Content). Apart cell_cmp (id_at cs) l.contents.order.items) (sym (c.deref-4.ensures.value ∙ stored)) (apart_left l.contents.items.items l.contents.order.items l.tiles.items.items s.new.tiles.items s.result i.5 i.2.apart i.0.apart s.ensures.same s.ensures.bound s.ensures.point)

pub settle-tiles-requires : goal.settle-tiles-requires
settle-tiles-requires c = apart_permuted places_total place_of c.self.inside.tiles.items.items c.sort_named-live.new.tiles.items c.sort_named-live.ensures.same c.self.invariant.0.apart

pub invariant_of-self : goal.invariant_of-self
invariant_of-self c =
    let l = c.self.inside in
    let i = c.self.invariant in
    let s = c.sort_named-live in
    let made : c.mark_all.new.contents ≡ marked_unnamed (take s.result s.new.tiles.items) l.contents.items.items l.contents.order.items = c.mark_all.ensures ∙ (λ k. marked_unnamed (take s.result (c.deref-3.ensures.value k)) (c.deref_mut.ensures.value k) (c.deref-2.ensures.value k)) in
    let len : length c.mark_all.new.contents ≡ l.contents.items.len = ap length made ∙ ((like_all (take s.result s.new.tiles.items) l.contents.items.items l.contents.order.items).len ∙ sym l.contents.items.ok.0) in
    let stored : (with_items l.contents.items c.mark_all.new.contents).items ≡ marked_unnamed (take s.result s.new.tiles.items) l.contents.items.items l.contents.order.items = with_items_is l.contents.items c.mark_all.new.contents len ∙ made in
    let again = IsPermutation-trans l.tiles.items.items s.new.tiles.items c.settle-tiles.new.items.items s.ensures.same c.settle-tiles.ensures.same in (
      c.settle-tiles.ensures.order,
      subst (λ (cs : List Content). All (IsTile cs) c.settle-tiles.new.items.items) (sym stored) (tiles_left l.contents.items.items l.contents.order.items l.tiles.items.items s.new.tiles.items s.result i.5 i.2.apart i.0.apart s.ensures.same s.ensures.bound s.ensures.point c.settle-tiles.new.items.items again i.1),
      subst (λ (cs : List Content). AreContentsInOrder cs c.settle-contents.result c.settle-contents.new.order.items) c.deref-4.ensures.value c.settle-contents.ensures.order,
      i.3,
      i.4,
      subst (λ (cs : List Content). All (HasId cs) c.settle-contents.new.order.items) (sym stored) (ids_left l.contents.items.items l.contents.order.items l.tiles.items.items s.new.tiles.items s.result i.5 i.2.apart i.0.apart s.ensures.same s.ensures.bound s.ensures.point c.settle-contents.new.order.items c.settle-contents.ensures.same),
      dated_left l.contents.items.items l.contents.order.items l.tiles.items.items s.new.tiles.items s.result i.5 i.2.apart i.0.apart s.ensures.same s.ensures.bound s.ensures.point l.layout c.settle-tiles.new.items.items again i.6,
    )

pub returns : goal.returns
returns c =
    let l = c.self.inside in
    let i = c.self.invariant in
    let s = c.sort_named-live in
    let made : c.mark_all.new.contents ≡ marked_unnamed (take s.result s.new.tiles.items) l.contents.items.items l.contents.order.items = c.mark_all.ensures ∙ (λ k. marked_unnamed (take s.result (c.deref-3.ensures.value k)) (c.deref_mut.ensures.value k) (c.deref-2.ensures.value k)) in
    let len : length c.mark_all.new.contents ≡ l.contents.items.len = ap length made ∙ ((like_all (take s.result s.new.tiles.items) l.contents.items.items l.contents.order.items).len ∙ sym l.contents.items.ok.0) in
    let stored : (with_items l.contents.items c.mark_all.new.contents).items ≡ marked_unnamed (take s.result s.new.tiles.items) l.contents.items.items l.contents.order.items = with_items_is l.contents.items c.mark_all.new.contents len ∙ made in
    let again = IsPermutation-trans l.tiles.items.items s.new.tiles.items c.settle-tiles.new.items.items s.ensures.same c.settle-tiles.ensures.same in
    ap (λ (cs : List Content). held_of l.layout l.algorithm l.patch_type cs c.settle-contents.new.order.items c.settle-tiles.new.items.items l.names.items.items) stored
    ∙ (held_dropped l.contents.items.items l.contents.order.items l.tiles.items.items s.new.tiles.items s.result i.5 i.2.apart i.0.apart s.ensures.same s.ensures.bound s.ensures.point c.settle-contents.new.order.items c.settle-contents.ensures.same l.layout l.algorithm l.patch_type l.names.items.items c.settle-tiles.new.items.items again
    ∙ ap only_referenced c.self.view_is)
