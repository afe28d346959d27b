use Rattle.mb_lists.proofs.Common.{All, All-permutation, ap, are_distinct, entries_by, false, from_entries, has_name_kinds, is_name_gone, IsName, IsPermutation-sym, Kept, List, list_all, map, name_of}
use Rattle.mb_lists.proofs.Common.{name_value, nat_cmp, nat_list_cmp_total, rules, slice_cmp, StoredName, subst, sym, true, ◌∙◌, ◌≡◌}
use Rattle.mb_lists.proofs.NameLemmas.{named_entries, names_alive, names_antisymmetric, name_texts, names_kept, names_pass, names_refused}
use Rattle.mb_lists.proofs.Sorting.{apart_permuted, distinct_from_apart, map_permuted}
use Rattle.mb_lists.proofs.name_list.NameList.of_rows.Goals as goal

pub in_order-requires : goal.in_order-requires
in_order-requires c = subst (All (λ (n : StoredName). is_name_gone n ≡ false)) (sym c.in_ok-items.ensures) (names_alive c.args.rows.items)

pub returns-in-Some-clause-tests : goal.returns-in-Some-clause-tests
returns-in-Some-clause-tests c =
    let passed : c.have_name_kinds.result ≡ true = search rules in
    let kinds : list_all has_name_kinds c.args.rows.items ≡ true = ap (list_all has_name_kinds) (sym c.deref.ensures.value) ∙ (sym c.have_name_kinds.ensures ∙ passed) in
    let apart = apart_permuted nat_list_cmp_total name_of c.in-Some.names.items.items c.in_ok-items.items.items (IsPermutation-sym c.in_ok-items.items.items c.in-Some.names.items.items c.in-Some.ensures.same) c.in-Some.ensures.order.apart in
    names_pass c.args.rows.items kinds (ap (λ (l : List StoredName). are_distinct (slice_cmp nat_cmp) (map name_of l)) (sym c.in_ok-items.ensures) ∙ distinct_from_apart nat_list_cmp_total name_of c.in_ok-items.items.items apart)

pub returns-in-Some-clause-names : goal.returns-in-Some-clause-names
returns-in-Some-clause-names c =
    let apart = apart_permuted nat_list_cmp_total name_of c.in-Some.names.items.items c.in_ok-items.items.items (IsPermutation-sym c.in_ok-items.items.items c.in-Some.names.items.items c.in-Some.ensures.same) c.in-Some.ensures.order.apart in
    map_permuted nat_list_cmp_total names_antisymmetric name_of name_value c.in_ok-items.items.items c.in-Some.names.items.items apart c.in-Some.ensures.order.apart c.in-Some.ensures.same
    ∙ (ap (λ (l : List StoredName). from_entries {R = slice_cmp nat_cmp} (entries_by name_of name_value l)) c.in_ok-items.ensures ∙ ap (from_entries {R = slice_cmp nat_cmp}) (named_entries c.args.rows.items))

pub returns-in-Some-clause-kept : goal.returns-in-Some-clause-kept
returns-in-Some-clause-kept c = All-permutation (λ (n : StoredName). n.standing ≡ Kept) c.in_ok-items.items.items c.in-Some.names.items.items c.in-Some.ensures.same (subst (All (λ (n : StoredName). n.standing ≡ Kept)) (sym c.in_ok-items.ensures) (names_kept c.args.rows.items))

pub returns-in-Some-clause-texts : goal.returns-in-Some-clause-texts
returns-in-Some-clause-texts c =
    let passed : c.have_name_kinds.result ≡ true = search rules in
    let kinds : list_all has_name_kinds c.args.rows.items ≡ true = ap (list_all has_name_kinds) (sym c.deref.ensures.value) ∙ (sym c.have_name_kinds.ensures ∙ passed) in
    All-permutation IsName c.in_ok-items.items.items c.in-Some.names.items.items c.in-Some.ensures.same (subst (All IsName) (sym c.in_ok-items.ensures) (name_texts c.args.rows.items kinds))

pub returns-in-None-clause-tests : goal.returns-in-None-clause-tests
returns-in-None-clause-tests c =
    let passed : c.have_name_kinds.result ≡ true = search rules in
    let kinds : list_all has_name_kinds c.args.rows.items ≡ true = ap (list_all has_name_kinds) (sym c.deref.ensures.value) ∙ (sym c.have_name_kinds.ensures ∙ passed) in
    (λ h. names_refused c.args.rows.items kinds (ap (λ (l : List StoredName). are_distinct (slice_cmp nat_cmp) (map name_of l)) (sym c.in_ok-items.ensures) ∙ c.in-None.ensures.twice), λ e. cc)
