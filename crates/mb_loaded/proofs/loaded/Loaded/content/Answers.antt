use Rattle.mb_loaded.proofs.Common.{ap, Content, content_none, content_some, get, Held, List, option_map, slice_get, sym, ◌∙◌}
use Rattle.mb_loaded.proofs.loaded.Loaded.content.Goals as goal

pub returns-in-Some : goal.returns-in-Some
returns-in-Some c =
    c.kept_cell.ensures
    ∙ (ap (λ (l : List Content). option_map (λ (k : Content). k.cell) (slice_get l c.in-Some.index)) c.deref.ensures.value
    ∙ (content_some c.self.inside.contents.items.items c.self.inside.contents.live c.self.inside.contents.order.items c.self.invariant.2 c.args.id.now c.in-Some.index (sym c.in-Some.ensures)
    ∙ ap (λ (h : Held). get h.state.contents c.args.id.now) c.self.view_is))

pub returns-in-None : goal.returns-in-None
returns-in-None c = content_none c.self.inside.contents.items.items c.self.inside.contents.live c.self.inside.contents.order.items c.self.invariant.2 c.args.id.now (sym c.in-None.ensures) ∙ ap (λ (h : Held). get h.state.contents c.args.id.now) c.self.view_is
