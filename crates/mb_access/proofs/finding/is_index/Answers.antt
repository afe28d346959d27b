use Rattle.mb_access.proofs.Common.{arith, len, place_at, sym, ◌<◌, ◌∙◌}
use Rattle.mb_access.proofs.FindingLemmas.{index_here}
use Rattle.mb_access.proofs.finding.is_index.Goals as goal

pub returns : goal.returns
returns c = λ equal.
    let within : c.args.index < len c.args.set.now.state.tiles = omega (arith, c.if-index-tile_count.false, c.tile_count.ensures) in
    index_here c.args.set.now.state.tiles (place_at c.args.coord) c.args.index c.tile_at-place.result.0 c.tile_at-place.result.1.now c.place_order.result within c.tile_at-place.ensures c.place_order.ensures (sym c.is_eq.ensures ∙ equal)
