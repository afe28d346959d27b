use Rattle.mb_loaded.proofs.Common.{ap, Held, len, sym, tiles_count, ◌∙◌}
use Rattle.mb_loaded.proofs.loaded.Loaded.tile_count.Goals as goal

pub returns : goal.returns
returns c = sym (tiles_count c.self.inside.contents.items.items c.self.inside.tiles.live c.self.inside.tiles.items.items c.self.invariant.0 c.self.invariant.1) ∙ ap (λ (h : Held). len h.state.tiles) c.self.view_is
