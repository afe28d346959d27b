use Rattle.mb_loaded.proofs.Common.{ap, get, Held, name_missing, name_some, option_map, sym, text_cell, ◌∙◌}
use Rattle.mb_loaded.proofs.loaded.Loaded.metadata.Goals as goal

pub returns-in-Some : goal.returns-in-Some
returns-in-Some c = name_some c.self.inside.names.live c.self.inside.names.items.items c.self.invariant.3 c.args.name.now c.in-Some.entry.now c.self.invariant.4 (sym c.in-Some.ensures) ∙ ap (λ (h : Held). option_map text_cell (get h.state.metadata c.args.name.now)) c.self.view_is

pub returns-in-None : goal.returns-in-None
returns-in-None c = ap (option_map text_cell) (sym (name_missing c.self.inside.names.live c.self.inside.names.items.items c.self.invariant.3 c.args.name.now (sym c.in-None.ensures))) ∙ ap (λ (h : Held). option_map text_cell (get h.state.metadata c.args.name.now)) c.self.view_is
