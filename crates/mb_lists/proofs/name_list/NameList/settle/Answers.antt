use Rattle.mb_lists.proofs.Common.{answers_always, behind, is_lt, is_name_gone, name_of, nat_cmp, nat_list_cmp_total, not, ranks_by, rules, slice_cmp, StoredName}
use Rattle.mb_lists.proofs.Settling.{behind_total, parted, settled_in_order}
use Rattle.mb_lists.proofs.name_list.NameList.settle.Goals as goal

pub returns-clause-order : goal.returns-clause-order
returns-clause-order c =
    let up = c.sort_unstable_by.ensures.sorted (λ (x y : StoredName). is_lt (behind (slice_cmp nat_cmp) name_of is_name_gone x y)) (ranks_by (behind_total nat_list_cmp_total name_of is_name_gone) (λ x. x)) (answers_always _ _ _ (λ f a r g called. search rules)) in
    let facts = c.partition_point.ensures in
    let point = facts.partitioned (λ (t : StoredName). not (is_name_gone t)) (answers_always _ _ _ (λ f a r g called. search rules)) in
    settled_in_order nat_list_cmp_total name_of is_name_gone c.args.items.now.items c.sort_unstable_by.new.self.items c.partition_point.result c.requires c.sort_unstable_by.ensures.permutation up (rw (← c.deref.ensures.value) facts.bound)
    (rw (← c.deref.ensures.value) (point (rw c.deref.ensures.value (parted nat_list_cmp_total name_of is_name_gone c.sort_unstable_by.new.self.items up))))
