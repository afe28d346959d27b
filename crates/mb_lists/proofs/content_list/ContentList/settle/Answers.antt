use Rattle.mb_lists.proofs.Common.{always_returns_same, behind, cell_cmp, cells_total, id_at, is_content_gone, is_lt, not, ranks_by, rules, ℕ}
use Rattle.mb_lists.proofs.Settling.{behind_total, parted, settled_in_order}
use Rattle.mb_lists.proofs.content_list.ContentList.settle.Goals as goal

pub returns-clause-order : goal.returns-clause-order
returns-clause-order c =
    let up = c.sort_unstable_by.ensures.sorted (λ (x y : ℕ). is_lt (behind cell_cmp (id_at c.args.items.now) (is_content_gone c.args.items.now) x y)) (ranks_by (behind_total cells_total (id_at c.args.items.now) (is_content_gone c.args.items.now)) (λ x. x)) (always_returns_same _ _ _ (λ a r f k. search rules)) in
    let facts = c.partition_point.ensures in
    let point = facts.partitioned (λ (t : ℕ). not (is_content_gone c.args.items.now t)) (always_returns_same _ _ _ (λ a r f k. search rules)) in
    settled_in_order cells_total (id_at c.args.items.now) (is_content_gone c.args.items.now) c.args.order.now.items c.sort_unstable_by.new.self.items c.partition_point.result c.requires c.sort_unstable_by.ensures.permutation up (rw (← c.deref.ensures.value) facts.bound)
    (rw (← c.deref.ensures.value) (point (rw c.deref.ensures.value (parted cells_total (id_at c.args.items.now) (is_content_gone c.args.items.now) c.sort_unstable_by.new.self.items up))))
