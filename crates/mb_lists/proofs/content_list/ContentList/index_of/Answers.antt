use Rattle.mb_lists.proofs.Common.{ap, cell_cmp-IsAntisymmetric, cells_total, id_at, is_content_gone, Some, sym, ◌∙◌}
use Rattle.mb_lists.proofs.Ordered.{at_live, gap_live}
use Rattle.mb_lists.proofs.content_list.ContentList.index_of.Goals as goal

pub returns-in-Ok : goal.returns-in-Ok
returns-in-Ok c = ap Some c.index.ensures ∙ sym (at_live cells_total cell_cmp-IsAntisymmetric (id_at c.args.self.now.items.items) (is_content_gone c.args.self.now.items.items) c.args.self.now.live c.args.self.now.order.items c.args.id.now c.in-Ok.at c.index.result.now c.in-Ok.ensures.found c.requires)

pub returns-in-Err : goal.returns-in-Err
returns-in-Err c = sym (gap_live cells_total cell_cmp-IsAntisymmetric (id_at c.args.self.now.items.items) (is_content_gone c.args.self.now.items.items) c.args.self.now.live c.args.self.now.order.items c.args.id.now c.in-Err.field-0 c.in-Err.ensures.absent c.requires)
