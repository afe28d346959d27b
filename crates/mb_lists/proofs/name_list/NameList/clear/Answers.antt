use Rattle.mb_lists.proofs.Common.{ap, is_name_gone, List, name_mark, name_of, nat_list_cmp_total, refl, remove, ℕ, [], ◌++◌, ◌∙◌, ◌∷◌}
use Rattle.mb_lists.proofs.NameLemmas.{names_antisymmetric}
use Rattle.mb_lists.proofs.StandsLemmas.{marked_at, no_mark}
use Rattle.mb_lists.proofs.name_list.NameList.clear.Goals as goal

pub returns-in-Ok-clause-order : goal.returns-in-Ok-clause-order
returns-in-Ok-clause-order c =
    let d = name_mark c.args.name.now in
    let xs = c.args.self.now.items.items in
    (marked_at nat_list_cmp_total names_antisymmetric name_of is_name_gone c.args.self.now.live xs c.mark_name.new.items.items c.in-Ok.at d c.in-Ok.ensures.found refl c.requires (c.mark_name.ensures d ∙ ap (λ (q : List ℕ). remove xs c.in-Ok.at ++ name_mark q ∷ []) (c.in-Ok.ensures.found.has_key d))).0

pub returns-in-Ok-clause-cleared : goal.returns-in-Ok-clause-cleared
returns-in-Ok-clause-cleared c =
    let d = name_mark c.args.name.now in
    let xs = c.args.self.now.items.items in
    (marked_at nat_list_cmp_total names_antisymmetric name_of is_name_gone c.args.self.now.live xs c.mark_name.new.items.items c.in-Ok.at d c.in-Ok.ensures.found refl c.requires (c.mark_name.ensures d ∙ ap (λ (q : List ℕ). remove xs c.in-Ok.at ++ name_mark q ∷ []) (c.in-Ok.ensures.found.has_key d))).1

pub returns-in_default-clause-cleared : goal.returns-in_default-clause-cleared
returns-in_default-clause-cleared c = no_mark nat_list_cmp_total names_antisymmetric name_of is_name_gone c.args.self.now.live c.args.self.now.items.items c.args.name.now c.in_default.field-0 (name_mark c.args.name.now) c.in_default.ensures.absent c.requires
