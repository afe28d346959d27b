use Rattle.mb_lists.proofs.Common.{answers_always, Apart, dedup_same, eq_by_cmp, is_lt, List, name_of, nat_cmp, nat_list_cmp_total, ranks_by, rules, slice_cmp, StoredName, subst, sym}
use Rattle.mb_lists.proofs.Newest.{dedup_apart, newest_from, newest_stands}
use Rattle.mb_lists.proofs.NameLemmas.{names_antisymmetric}
use Rattle.mb_lists.proofs.name_list.NameList.newest.Goals as goal

pub settle-live-requires : goal.settle-live-requires
settle-live-requires c =
    let up = c.in_ok-sort_by.ensures.sorted (λ (a b : StoredName). is_lt (slice_cmp nat_cmp (name_of a) (name_of b))) (ranks_by nat_list_cmp_total name_of) (answers_always _ _ _ (λ f a r g called. search rules)) in
    let kept = dedup_same _ (λ (a b : StoredName). eq_by_cmp (slice_cmp nat_cmp) (name_of a) (name_of b)) _ (λ x y b f x' y' called. search rules) c.sort_by.new.self.items c.dedup_by.new.self.items c.dedup_by.ensures.filtered in
    subst (λ (l : List StoredName). Apart (slice_cmp nat_cmp) name_of l) (sym kept) (dedup_apart nat_list_cmp_total name_of c.sort_by.new.self.items up)

pub returns-clause-same : goal.returns-clause-same
returns-clause-same c =
    let up = c.in_ok-sort_by.ensures.sorted (λ (a b : StoredName). is_lt (slice_cmp nat_cmp (name_of a) (name_of b))) (ranks_by nat_list_cmp_total name_of) (answers_always _ _ _ (λ f a r g called. search rules)) in
    let stable = c.in_ok-sort_by.ensures.stable (λ (a b : StoredName). is_lt (slice_cmp nat_cmp (name_of a) (name_of b))) (ranks_by nat_list_cmp_total name_of) (answers_always _ _ _ (λ f a r g called. search rules)) in
    let kept = dedup_same _ (λ (a b : StoredName). eq_by_cmp (slice_cmp nat_cmp) (name_of a) (name_of b)) _ (λ x y b f x' y' called. search rules) c.sort_by.new.self.items c.dedup_by.new.self.items c.dedup_by.ensures.filtered in
    newest_stands nat_list_cmp_total names_antisymmetric name_of c.args.items.items c.reverse.new.self.items c.sort_by.new.self.items c.dedup_by.new.self.items c.settle-live.new.items.items c.reverse.ensures.items c.sort_by.ensures.permutation stable up kept c.settle-live.ensures.same c.settle-live.ensures.order.apart

pub returns-clause-from : goal.returns-clause-from
returns-clause-from c =
    let kept = dedup_same _ (λ (a b : StoredName). eq_by_cmp (slice_cmp nat_cmp) (name_of a) (name_of b)) _ (λ x y b f x' y' called. search rules) c.sort_by.new.self.items c.dedup_by.new.self.items c.dedup_by.ensures.filtered in
    newest_from nat_list_cmp_total names_antisymmetric name_of c.args.items.items c.reverse.new.self.items c.sort_by.new.self.items c.dedup_by.new.self.items c.settle-live.new.items.items c.reverse.ensures.items c.sort_by.ensures.permutation kept c.settle-live.ensures.same
