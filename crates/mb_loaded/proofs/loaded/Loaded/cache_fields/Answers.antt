use Rattle.mb_loaded.proofs.Common.{ap, dates_found, dates_missing, get, Held, place_at, sym, ◌∙◌}
use Rattle.mb_loaded.proofs.loaded.Loaded.cache_fields.Goals as goal

pub returns-in-Some : goal.returns-in-Some
returns-in-Some c =
    c.fields_of.ensures
    ∙ (dates_found c.self.inside.contents.items.items c.self.inside.tiles.live c.self.inside.tiles.items.items c.self.invariant.0 (place_at c.args.coord) c.in-Some.tile.now (sym c.in-Some.ensures)
    ∙ ap (λ (h : Held). get h.state.dates (place_at c.args.coord)) c.self.view_is)

pub returns-in-None : goal.returns-in-None
returns-in-None c = dates_missing c.self.inside.contents.items.items c.self.inside.tiles.live c.self.inside.tiles.items.items c.self.invariant.0 (place_at c.args.coord) (sym c.in-None.ensures) ∙ ap (λ (h : Held). get h.state.dates (place_at c.args.coord)) c.self.view_is
