use Rattle.mb_lists.proofs.Common.{always_returns_same, cell_cmp, cell_cmp-IsAntisymmetric, cells_total, id_at, is_content_gone, rules, ℕ}
use Rattle.mb_lists.proofs.Ordered.{search_found, search_absent}
use Rattle.mb_lists.proofs.content_list.ContentList.search.Goals as goal

pub returns-clause-found : goal.returns-clause-found
returns-clause-found c =
    let facts = c.binary_search_by.ensures in
    let by_id = facts.position (λ (i : ℕ). cell_cmp (id_at c.args.self.now.items.items i) c.args.id.now) (always_returns_same _ _ _ (λ a r f k. search rules)) in
    search_found cells_total cell_cmp-IsAntisymmetric (id_at c.args.self.now.items.items) (is_content_gone c.args.self.now.items.items) c.args.self.now.live c.args.self.now.order.items c.args.id.now _ c.requires (rw (← c.deref.ensures.value) facts.bound) (rw (← c.deref.ensures.value) by_id)

pub returns-clause-absent : goal.returns-clause-absent
returns-clause-absent c =
    let facts = c.binary_search_by.ensures in
    let by_id = facts.position (λ (i : ℕ). cell_cmp (id_at c.args.self.now.items.items i) c.args.id.now) (always_returns_same _ _ _ (λ a r f k. search rules)) in
    search_absent cells_total cell_cmp-IsAntisymmetric (id_at c.args.self.now.items.items) (is_content_gone c.args.self.now.items.items) c.args.self.now.live c.args.self.now.order.items c.args.id.now _ c.requires (rw (← c.deref.ensures.value) facts.bound) (rw (← c.deref.ensures.value) by_id)
