use Rattle.mb_lists.proofs.Common.{always_returns_same, Apart, cell_cmp, cell_cmp-IsAntisymmetric, cells_total, Content, dedup_same, eq_by_cmp, id_at, is_lt, List, ranks_by, rules, subst, sym, ℕ}
use Rattle.mb_lists.proofs.Newest.{dedup_apart, newest_from, newest_stands}
use Rattle.mb_lists.proofs.content_list.ContentList.newest.Goals as goal

pub settle-live-requires : goal.settle-live-requires
settle-live-requires c =
    let up = c.in_ok-sort_by.ensures.sorted (λ (a b : ℕ). is_lt (cell_cmp (id_at c.args.items.items a) (id_at c.args.items.items b))) (ranks_by cells_total (id_at c.args.items.items)) (always_returns_same _ _ _ (λ a r f k. search rules)) in
    let kept = dedup_same _ (λ (a b : ℕ). eq_by_cmp cell_cmp (id_at c.args.items.items a) (id_at c.args.items.items b)) _ (λ x y b f x' y' called. search rules) c.sort_by.new.self.items c.dedup_by.new.self.items c.dedup_by.ensures.filtered in
    rw c.deref.ensures.value (subst (λ (l : List ℕ). Apart cell_cmp (id_at c.args.items.items) l) (sym kept) (dedup_apart cells_total (id_at c.args.items.items) c.sort_by.new.self.items up))

pub returns-clause-same : goal.returns-clause-same
returns-clause-same c =
    let up = c.in_ok-sort_by.ensures.sorted (λ (a b : ℕ). is_lt (cell_cmp (id_at c.args.items.items a) (id_at c.args.items.items b))) (ranks_by cells_total (id_at c.args.items.items)) (always_returns_same _ _ _ (λ a r f k. search rules)) in
    let stable = c.in_ok-sort_by.ensures.stable (λ (a b : ℕ). is_lt (cell_cmp (id_at c.args.items.items a) (id_at c.args.items.items b))) (ranks_by cells_total (id_at c.args.items.items)) (always_returns_same _ _ _ (λ a r f k. search rules)) in
    let kept = dedup_same _ (λ (a b : ℕ). eq_by_cmp cell_cmp (id_at c.args.items.items a) (id_at c.args.items.items b)) _ (λ x y b f x' y' called. search rules) c.sort_by.new.self.items c.dedup_by.new.self.items c.dedup_by.ensures.filtered in
    newest_stands cells_total cell_cmp-IsAntisymmetric (id_at c.args.items.items) c.args.order.items c.reverse.new.self.items c.sort_by.new.self.items c.dedup_by.new.self.items c.settle-live.new.order.items c.reverse.ensures.items c.sort_by.ensures.permutation stable up kept c.settle-live.ensures.same (subst (λ (l : List Content). Apart cell_cmp (id_at l) c.settle-live.new.order.items) c.deref.ensures.value c.settle-live.ensures.order.apart)

pub returns-clause-from : goal.returns-clause-from
returns-clause-from c =
    let kept = dedup_same _ (λ (a b : ℕ). eq_by_cmp cell_cmp (id_at c.args.items.items a) (id_at c.args.items.items b)) _ (λ x y b f x' y' called. search rules) c.sort_by.new.self.items c.dedup_by.new.self.items c.dedup_by.ensures.filtered in
    newest_from cells_total cell_cmp-IsAntisymmetric (id_at c.args.items.items) c.args.order.items c.reverse.new.self.items c.sort_by.new.self.items c.dedup_by.new.self.items c.settle-live.new.order.items c.reverse.ensures.items c.sort_by.ensures.permutation kept c.settle-live.ensures.same
