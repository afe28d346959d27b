use Rattle.mb_loaded.proofs.Common.{ap, Held, len, names_count, sym, ◌∙◌}
use Rattle.mb_loaded.proofs.loaded.Loaded.metadata_count.Goals as goal

pub returns : goal.returns
returns c = sym (names_count c.self.inside.names.live c.self.inside.names.items.items c.self.invariant.3) ∙ ap (λ (h : Held). len h.state.metadata) c.self.view_is
