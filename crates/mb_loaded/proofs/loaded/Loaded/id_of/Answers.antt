use Rattle.mb_loaded.proofs.Common.{ap, cond, Content, get, Held, id_at, id_none, id_some, is_null, List, None, place_at, Some, sym, ◌∙◌}
use Rattle.mb_loaded.proofs.loaded.Loaded.id_of.Goals as goal

pub returns-in-Some : goal.returns-in-Some
returns-in-Some c =
    c.kept_id.ensures
    ∙ (ap (λ (l : List Content). cond (is_null (id_at l c.in-Some.tile.now.contents)) None (Some (id_at l c.in-Some.tile.now.contents))) c.deref.ensures.value
    ∙ (id_some c.self.inside.contents.items.items c.self.inside.tiles.live c.self.inside.tiles.items.items c.self.invariant.0 (place_at c.args.coord) c.in-Some.tile.now (sym c.in-Some.ensures)
    ∙ ap (λ (h : Held). get h.state.ids (place_at c.args.coord)) c.self.view_is))

pub returns-in-None : goal.returns-in-None
returns-in-None c = id_none c.self.inside.contents.items.items c.self.inside.tiles.live c.self.inside.tiles.items.items c.self.invariant.0 (place_at c.args.coord) (sym c.in-None.ensures) ∙ ap (λ (h : Held). get h.state.ids (place_at c.args.coord)) c.self.view_is
