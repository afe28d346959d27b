use Rattle.mb_lists.proofs.Common.{always_returns_same, answers_always, behind, cell_cmp, cells_total, id_at, is_gone, is_lt, not, ranks_by, rules, StoredTile}
use Rattle.mb_lists.proofs.Dropped.{ids_rise}
use Rattle.mb_lists.proofs.Settling.{behind_total, parted}
use Rattle.mb_lists.proofs.dropping.sort_named.Goals as goal

pub returns-clause-order : goal.returns-clause-order
returns-clause-order c =
    let up = c.sort_unstable_by.ensures.sorted (λ (x y : StoredTile). is_lt (behind cell_cmp (λ t. id_at c.args.contents.now t.contents) is_gone x y)) (ranks_by (behind_total cells_total (λ t. id_at c.args.contents.now t.contents) is_gone) (λ x. x)) (always_returns_same _ _ _ (λ a r f k. search rules)) in
    let facts = c.partition_point.ensures in
    let point = facts.partitioned (λ (t : StoredTile). not (is_gone t)) (answers_always _ _ _ (λ f a r g called. search rules)) in
    ids_rise c.args.contents.now c.sort_unstable_by.new.self.items c.partition_point.result up (rw (← c.deref.ensures.value) facts.bound)
    (rw (← c.deref.ensures.value) (point (rw c.deref.ensures.value (parted cells_total (λ t. id_at c.args.contents.now t.contents) is_gone c.sort_unstable_by.new.self.items up))))

pub returns-clause-point : goal.returns-clause-point
returns-clause-point c =
    let up = c.sort_unstable_by.ensures.sorted (λ (x y : StoredTile). is_lt (behind cell_cmp (λ t. id_at c.args.contents.now t.contents) is_gone x y)) (ranks_by (behind_total cells_total (λ t. id_at c.args.contents.now t.contents) is_gone) (λ x. x)) (always_returns_same _ _ _ (λ a r f k. search rules)) in
    let point = c.partition_point.ensures.partitioned (λ (t : StoredTile). not (is_gone t)) (answers_always _ _ _ (λ f a r g called. search rules)) in
    rw (← c.deref.ensures.value) (point (rw c.deref.ensures.value (parted cells_total (λ t. id_at c.args.contents.now t.contents) is_gone c.sort_unstable_by.new.self.items up)))
