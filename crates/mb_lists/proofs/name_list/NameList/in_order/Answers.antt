use Rattle.mb_lists.proofs.Common.{answers_always, AreNamesInOrder, false, get_or, is_lt, is_name_gone, length, name_of, nat_cmp, nat_list_cmp_total, ranks_by, rules, slice_cmp, StoredName, subst}
use Rattle.mb_lists.proofs.Common.{sym, ℕ, ◌+◌, ◌<◌, ◌≡◌}
use Rattle.mb_lists.proofs.NameLemmas.{names_antisymmetric}
use Rattle.mb_lists.proofs.Sorting.{not_rising, sorted_in_order}
use Rattle.mb_lists.proofs.name_list.NameList.in_order.Goals as goal

pub returns-clause-order : goal.returns-clause-order
returns-clause-order c =
    let rises = c.if-not-is_sorted_by.ensures.cases (λ (a b : StoredName). is_lt ((slice_cmp nat_cmp) (name_of a) (name_of b))) (answers_always _ _ _ (λ f a r g called. search rules)) in
    let same : c.len-live.result ≡ length c.sort_unstable_by.new.self.items = search rules in
    subst (λ n. AreNamesInOrder n c.sort_unstable_by.new.self.items) (sym same)
    (sorted_in_order nat_list_cmp_total names_antisymmetric name_of is_name_gone c.args.items.items c.sort_unstable_by.new.self.items c.sort_unstable_by.ensures.permutation c.requires (rw (← c.deref.ensures.value) rises))

pub returns-then-not-is_sorted_by-clause-twice : goal.returns-then-not-is_sorted_by-clause-twice
returns-then-not-is_sorted_by-clause-twice c =
    let falls = c.if-not-is_sorted_by.ensures.cases (λ (a b : StoredName). is_lt ((slice_cmp nat_cmp) (name_of a) (name_of b))) (answers_always _ _ _ (λ f a r g called. search rules)) in
    let up = c.sort_unstable_by.ensures.sorted (λ (a b : StoredName). is_lt ((slice_cmp nat_cmp) (name_of a) (name_of b))) (ranks_by nat_list_cmp_total name_of) (answers_always _ _ _ (λ f a r g called. search rules)) in
    let here : (k : ℕ) × (k + 1 < length c.sort_unstable_by.new.self.items) × ((d : StoredName) → false ≡ is_lt (slice_cmp nat_cmp (name_of (get_or c.sort_unstable_by.new.self.items k d)) (name_of (get_or c.sort_unstable_by.new.self.items (k + 1) d)))) = rw (← c.deref.ensures.value) falls in
    not_rising nat_list_cmp_total name_of c.args.items.items c.sort_unstable_by.new.self.items c.sort_unstable_by.ensures.permutation up here.0 here.1 here.2
