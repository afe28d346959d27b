use Rattle.mb_lists.proofs.Common.{ap, is_name_gone, name_of, nat_list_cmp_total, Some, sym, ◌∙◌}
use Rattle.mb_lists.proofs.Ordered.{at_live, gap_live}
use Rattle.mb_lists.proofs.NameLemmas.{names_antisymmetric}
use Rattle.mb_lists.proofs.name_list.NameList.get.Goals as goal

pub returns-in-Ok : goal.returns-in-Ok
returns-in-Ok c = ap Some c.index.ensures ∙ sym (at_live nat_list_cmp_total names_antisymmetric name_of is_name_gone c.args.self.now.live c.args.self.now.items.items c.args.name.now c.in-Ok.at c.index.result.now c.in-Ok.ensures.found c.requires)

pub returns-in-Err : goal.returns-in-Err
returns-in-Err c = sym (gap_live nat_list_cmp_total names_antisymmetric name_of is_name_gone c.args.self.now.live c.args.self.now.items.items c.args.name.now c.in-Err.field-0 c.in-Err.ensures.absent c.requires)
