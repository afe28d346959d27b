use Rattle.mb_loaded.proofs.Common.{All, AreContentsInOrder, Content, HasId, IsDated, IsName, IsTile, List, subst, sym, ◌∙◌}
use Rattle.mb_loaded.proofs.EditViews.{all_from, held_settled}
use Rattle.mb_loaded.proofs.editing.Editing.settle.Goals as goal

pub invariant_of-result : goal.invariant_of-result
invariant_of-result c =
    let l = c.self.inside in
    let i = c.self.invariant in
    let same = sym c.in_ok-contents.ensures.items in (
      c.in_ok-tiles.ensures.order,
      subst (λ (cs : List Content). All (IsTile cs) c.in_ok-tiles.tiles.items.items) same (all_from (IsTile l.contents.items) l.tiles.items c.in_ok-tiles.tiles.items.items i.0 c.in_ok-tiles.ensures.from),
      subst (λ (cs : List Content). AreContentsInOrder cs c.in_ok-contents.contents.live c.in_ok-contents.contents.order.items) same c.in_ok-contents.ensures.order,
      c.in_ok-names.ensures.order,
      all_from IsName l.names.items c.in_ok-names.names.items.items i.3 c.in_ok-names.ensures.from,
      subst (λ (cs : List Content). All (HasId cs) c.in_ok-contents.contents.order.items) same (all_from (HasId l.contents.items) l.order.items c.in_ok-contents.contents.order.items i.1 c.in_ok-contents.ensures.from),
      all_from (IsDated l.layout) l.tiles.items c.in_ok-tiles.tiles.items.items i.2 c.in_ok-tiles.ensures.from,
    )

pub returns : goal.returns
returns c = held_settled c.self.inside.layout c.self.inside.algorithm c.self.inside.patch_type c.self.inside.contents.items c.self.inside.order.items c.self.inside.tiles.items c.self.inside.names.items c.in_ok-contents.contents.items.items c.in_ok-contents.contents.order.items c.in_ok-tiles.tiles.items.items c.in_ok-names.names.items.items c.in_ok-contents.ensures.items c.in_ok-contents.ensures.same c.in_ok-contents.ensures.order.apart c.in_ok-tiles.ensures.same c.in_ok-tiles.ensures.order.apart c.in_ok-names.ensures.same c.in_ok-names.ensures.order.apart ∙ c.self.view_is
