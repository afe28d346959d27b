use Rattle.mb_loaded.proofs.Common.{ap, blob_cell, Content, get, Held, List, option_map, place_at, slice_get, sym, tile_none, tile_some, ◌∙◌}
use Rattle.mb_loaded.proofs.loaded.Loaded.tile.Goals as goal

pub returns-in-Some : goal.returns-in-Some
returns-in-Some c =
    c.kept_cell.ensures
    ∙ (ap (λ (l : List Content). option_map (λ (k : Content). k.cell) (slice_get l c.in-Some.tile.now.contents)) c.deref.ensures.value
    ∙ (tile_some c.self.inside.contents.items.items c.self.inside.tiles.live c.self.inside.tiles.items.items c.self.invariant.0 (place_at c.args.coord) c.in-Some.tile.now c.self.invariant.1 (sym c.in-Some.ensures)
    ∙ ap (λ (h : Held). option_map blob_cell (get h.state.tiles (place_at c.args.coord))) c.self.view_is))

pub returns-in-None : goal.returns-in-None
returns-in-None c = tile_none c.self.inside.contents.items.items c.self.inside.tiles.live c.self.inside.tiles.items.items c.self.invariant.0 (place_at c.args.coord) (sym c.in-None.ensures) ∙ ap (λ (h : Held). option_map blob_cell (get h.state.tiles (place_at c.args.coord))) c.self.view_is
