use Rattle.mb_lists.proofs.Common.{always_returns_same, ap, are_distinct, AreContentsInOrder, cell_cmp, cell_cmp-IsAntisymmetric, cells_total, false, get_or, id_at, ids_from, is_content_gone, is_lt}
use Rattle.mb_lists.proofs.Common.{length, List, map, ranks_by, rules, subst, sym, ℕ, ◌+◌, ◌<◌, ◌∙◌, ◌≡◌}
use Rattle.mb_lists.proofs.ContentLemmas.{none_gone}
use Rattle.mb_lists.proofs.Sorting.{not_rising, sorted_in_order}
use Rattle.mb_lists.proofs.content_list.ContentList.in_order.Goals as goal

pub returns-clause-order : goal.returns-clause-order
returns-clause-order c =
    let rises = c.if-not-is_sorted_by.ensures.cases (λ (a b : ℕ). is_lt (cell_cmp (id_at c.args.items.items a) (id_at c.args.items.items b))) (always_returns_same _ _ _ (λ a r f k. search rules)) in
    let same : c.len-live.result ≡ length c.sort_unstable_by.new.self.items = search rules in
    subst (λ n. AreContentsInOrder c.args.items.items n c.sort_unstable_by.new.self.items) (sym same)
    (sorted_in_order cells_total cell_cmp-IsAntisymmetric (id_at c.args.items.items) (is_content_gone c.args.items.items) c.in_ok-order.order.items c.sort_unstable_by.new.self.items c.sort_unstable_by.ensures.permutation (none_gone c.args.items.items c.in_ok-order.order.items c.requires) (rw (← c.deref-2.ensures.value) rises))

pub returns-then-not-is_sorted_by-clause-twice : goal.returns-then-not-is_sorted_by-clause-twice
returns-then-not-is_sorted_by-clause-twice c =
    let falls = c.if-not-is_sorted_by.ensures.cases (λ (a b : ℕ). is_lt (cell_cmp (id_at c.args.items.items a) (id_at c.args.items.items b))) (always_returns_same _ _ _ (λ a r f k. search rules)) in
    let up = c.sort_unstable_by.ensures.sorted (λ (a b : ℕ). is_lt (cell_cmp (id_at c.args.items.items a) (id_at c.args.items.items b))) (ranks_by cells_total (id_at c.args.items.items)) (always_returns_same _ _ _ (λ a r f k. search rules)) in
    let here : (k : ℕ) × (k + 1 < length c.sort_unstable_by.new.self.items) × ((d : ℕ) → false ≡ is_lt (cell_cmp (id_at c.args.items.items (get_or c.sort_unstable_by.new.self.items k d)) (id_at c.args.items.items (get_or c.sort_unstable_by.new.self.items (k + 1) d)))) = rw (← c.deref-2.ensures.value) falls in
    let ids : c.in_ok-order.order.items ≡ ids_from 0 c.args.items.items = c.in_ok-order.ensures ∙ ap (ids_from 0) c.deref.ensures.value in
    ap (λ (l : List ℕ). are_distinct cell_cmp (map (id_at c.args.items.items) l)) (sym ids)
    ∙ not_rising cells_total (id_at c.args.items.items) c.in_ok-order.order.items c.sort_unstable_by.new.self.items c.sort_unstable_by.ensures.permutation up here.0 here.1 here.2
