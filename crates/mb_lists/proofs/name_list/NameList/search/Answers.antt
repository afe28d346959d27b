use Rattle.mb_lists.proofs.Common.{always_returns_same, is_name_gone, name_of, nat_cmp, nat_list_cmp_total, rules, slice_cmp, StoredName}
use Rattle.mb_lists.proofs.Ordered.{search_found, search_absent}
use Rattle.mb_lists.proofs.NameLemmas.{names_antisymmetric}
use Rattle.mb_lists.proofs.name_list.NameList.search.Goals as goal

pub returns-clause-found : goal.returns-clause-found
returns-clause-found c =
    let facts = c.binary_search_by.ensures in
    let by_place = facts.position (λ (t : StoredName). (slice_cmp nat_cmp) (name_of t) c.args.name.now) (always_returns_same _ _ _ (λ a r f k. search rules)) in
    search_found nat_list_cmp_total names_antisymmetric name_of is_name_gone c.args.self.now.live c.args.self.now.items.items c.args.name.now _ c.requires (rw (← c.deref.ensures.value) facts.bound) (rw (← c.deref.ensures.value) by_place)

pub returns-clause-absent : goal.returns-clause-absent
returns-clause-absent c =
    let facts = c.binary_search_by.ensures in
    let by_place = facts.position (λ (t : StoredName). (slice_cmp nat_cmp) (name_of t) c.args.name.now) (always_returns_same _ _ _ (λ a r f k. search rules)) in
    search_absent nat_list_cmp_total names_antisymmetric name_of is_name_gone c.args.self.now.live c.args.self.now.items.items c.args.name.now _ c.requires (rw (← c.deref.ensures.value) facts.bound) (rw (← c.deref.ensures.value) by_place)
