use Rattle.mb_loaded.proofs.Common.{ap, arith, blob_cell, entries, Held, IfSome, len, place_at, slice_get, subst, sym, tile_read, tile_within, tiles_count, ◌<◌, ◌∙◌, ◌≡◌}
use Rattle.mb_loaded.proofs.loaded.Loaded.tile_at.Goals as goal

pub index-tile-requires : goal.index-tile-requires
index-tile-requires c =
    let n : len c.args.self.now.state.tiles ≡ c.self.inside.tiles.live = ap (λ (h : Held). len h.state.tiles) (sym c.self.view_is) ∙ tiles_count c.self.inside.contents.items.items c.self.inside.tiles.live c.self.inside.tiles.items.items c.self.invariant.0 c.self.invariant.1 in
    let lt : c.args.index < c.self.inside.tiles.live = omega (arith, n, c.requires) in
    omega (arith, lt, c.self.invariant.0.bound, c.self.inside.tiles.items.ok.0)

pub index-requires : goal.index-requires
index-requires c =
    let n : len c.args.self.now.state.tiles ≡ c.self.inside.tiles.live = ap (λ (h : Held). len h.state.tiles) (sym c.self.view_is) ∙ tiles_count c.self.inside.contents.items.items c.self.inside.tiles.live c.self.inside.tiles.items.items c.self.invariant.0 c.self.invariant.1 in
    let lt : c.args.index < c.self.inside.tiles.live = omega (arith, n, c.requires) in
    let within = tile_within c.self.inside.contents.items.items c.self.inside.tiles.live c.self.inside.tiles.items.items c.self.invariant.0 c.self.invariant.1 c.args.index c.index-tile.result.now lt c.index-tile.ensures in
    omega (arith, within, c.self.inside.contents.items.ok.0)

pub returns : goal.returns
returns c =
    let n : len c.args.self.now.state.tiles ≡ c.self.inside.tiles.live = ap (λ (h : Held). len h.state.tiles) (sym c.self.view_is) ∙ tiles_count c.self.inside.contents.items.items c.self.inside.tiles.live c.self.inside.tiles.items.items c.self.invariant.0 c.self.invariant.1 in
    let lt : c.args.index < c.self.inside.tiles.live = omega (arith, n, c.requires) in
    subst (λ (h : Held). IfSome (slice_get (entries h.state.tiles) c.args.index) (λ e. (e.0 ≡ place_at c.index-tile.result.now.coord) × (blob_cell e.1 ≡ c.index.result.now.cell))) c.self.view_is
    (tile_read c.self.inside.contents.items.items c.self.inside.tiles.live c.self.inside.tiles.items.items c.self.invariant.0 c.self.invariant.1 c.args.index c.index-tile.result.now c.index.result.now lt c.index-tile.ensures c.index.ensures)
