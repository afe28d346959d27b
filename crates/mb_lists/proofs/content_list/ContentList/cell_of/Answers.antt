use Rattle.mb_lists.proofs.Common.{ap, Content, List, option_map, slice_get, sym, unwrap_or, ◌∙◌}
use Rattle.mb_lists.proofs.IdLemmas.{cell_at_index, no_cell_under}
use Rattle.mb_lists.proofs.content_list.ContentList.cell_of.Goals as goal

pub returns-in-Some : goal.returns-in-Some
returns-in-Some c =
    c.cell_in.ensures
    ∙ (ap (λ (l : List Content). unwrap_or (option_map (λ (k : Content). k.cell) (slice_get l c.in-Some.index)) c.args.null.now) c.deref.ensures.value
    ∙ cell_at_index c.args.self.now.items.items c.args.self.now.live c.args.self.now.order.items c.requires.indexed c.args.id.now c.requires.id c.in-Some.index (sym c.index_of.ensures ∙ c.in-Some.is) c.args.null.now)

pub returns-in-None : goal.returns-in-None
returns-in-None c = c.requires.null ∙ sym (no_cell_under c.args.self.now.items.items c.args.self.now.live c.args.self.now.order.items c.requires.indexed c.args.id.now c.requires.id (sym c.index_of.ensures ∙ c.in-None.is))
