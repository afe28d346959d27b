use Rattle.mb_lists.proofs.Common.{ap, at_key, drop, is_name_gone, IsAt, IsGap, length, List, name_of, nat_cmp, nat_list_cmp_total, position, slice_cmp, StoredName, subst, take, ℕ, ◌-◌, ◌∙◌}
use Rattle.mb_lists.proofs.ListEdits.{slice_from}
use Rattle.mb_lists.proofs.NameLemmas.{names_antisymmetric}
use Rattle.mb_lists.proofs.StandsLemmas.{over, placed}
use Rattle.mb_lists.proofs.name_list.NameList.put.Goals as goal

pub returns-in-Ok-clause-order : goal.returns-in-Ok-clause-order
returns-in-Ok-clause-order c = (over nat_list_cmp_total names_antisymmetric name_of is_name_gone c.args.self.now.live c.args.self.now.items.items c.in-Ok.at c.args.entry (subst (λ (q : List ℕ). IsAt (slice_cmp nat_cmp) name_of c.args.self.now.live c.args.self.now.items.items q c.in-Ok.at) c.as_str.ensures c.in-Ok.ensures.found) c.requires.live c.requires.order).0

pub returns-in-Ok-clause-same : goal.returns-in-Ok-clause-same
returns-in-Ok-clause-same c = (over nat_list_cmp_total names_antisymmetric name_of is_name_gone c.args.self.now.live c.args.self.now.items.items c.in-Ok.at c.args.entry (subst (λ (q : List ℕ). IsAt (slice_cmp nat_cmp) name_of c.args.self.now.live c.args.self.now.items.items q c.in-Ok.at) c.as_str.ensures c.in-Ok.ensures.found) c.requires.live c.requires.order).1

pub returns-in-Err-clause-order : goal.returns-in-Err-clause-order
returns-in-Err-clause-order c =
    let gap = subst (λ (q : List ℕ). IsGap (slice_cmp nat_cmp) name_of c.args.self.now.live c.args.self.now.items.items q c.in-Err.at) c.as_str.ensures c.in-Err.ensures.absent in
    let slice : List StoredName = take (length c.deref.result.now - c.args.self.now.live) (drop c.args.self.now.live c.deref.result.now) in
    (placed nat_list_cmp_total names_antisymmetric name_of is_name_gone c.args.self.now.live c.args.self.now.items.items c.put_at.new.items.items slice c.in-Err.at c.args.entry c.name_position-mark.result gap c.requires.live (c.name_position-mark.ensures ∙ ap (λ (q : List ℕ). position (at_key (slice_cmp nat_cmp) name_of q) slice) c.as_str-in-Err.ensures) (slice_from c.deref.result.now _ c.args.self.now.live c.deref.ensures.value) c.requires.order c.put_at.ensures).0

pub returns-in-Err-clause-same : goal.returns-in-Err-clause-same
returns-in-Err-clause-same c =
    let gap = subst (λ (q : List ℕ). IsGap (slice_cmp nat_cmp) name_of c.args.self.now.live c.args.self.now.items.items q c.in-Err.at) c.as_str.ensures c.in-Err.ensures.absent in
    let slice : List StoredName = take (length c.deref.result.now - c.args.self.now.live) (drop c.args.self.now.live c.deref.result.now) in
    (placed nat_list_cmp_total names_antisymmetric name_of is_name_gone c.args.self.now.live c.args.self.now.items.items c.put_at.new.items.items slice c.in-Err.at c.args.entry c.name_position-mark.result gap c.requires.live (c.name_position-mark.ensures ∙ ap (λ (q : List ℕ). position (at_key (slice_cmp nat_cmp) name_of q) slice) c.as_str-in-Err.ensures) (slice_from c.deref.result.now _ c.args.self.now.live c.deref.ensures.value) c.requires.order c.put_at.ensures).1
