use Rattle.mb_access.proofs.Common.{arith, len, place_at, sym, ◌+◌, ◌-◌, ◌/◌, ◌<◌, ◌∙◌, ◌≤◌}
use Rattle.mb_access.proofs.FindingLemmas.{all_between, index_here, index_nowhere, narrower}
use Rattle.mb_access.proofs.finding.sought_index.Goals as goal

pub loop-span-init : goal.loop-span-init
loop-span-init c = all_between c.args.set.now.state.tiles (place_at c.args.coord) c.tile_count.result c.tile_count.ensures

pub returns-then-is_eq : goal.returns-then-is_eq
returns-then-is_eq c =
    let low = c.loop-span.span.low in
    let high = c.loop-span.span.high in
    let within : low + (high - low) / 2 < len c.args.set.now.state.tiles = omega (arith, c.loop-span-test.true, c.loop-span.invariant.within) in
    index_here c.args.set.now.state.tiles (place_at c.args.coord) (low + (high - low) / 2) c.tile_at-place.result.0 c.tile_at-place.result.1.now c.place_order-order.result within c.tile_at-place.ensures c.place_order-order.ensures (sym c.is_eq.ensures ∙ c.if-is_eq.true)

pub loop-span-preserved : goal.loop-span-preserved
loop-span-preserved c =
    let low = c.loop-span.span.low in
    let high = c.loop-span.span.high in
    let first : low ≤ low + (high - low) / 2 = omega arith in
    let last : low + (high - low) / 2 < high = omega (arith, c.loop-span-test.true) in
    narrower c.args.set.now.state.tiles (place_at c.args.coord) low high (low + (high - low) / 2) c.half-span.result.low c.half-span.result.high c.tile_at-place.result.0 c.tile_at-place.result.1.now c.place_order-order.result c.is_lt.result
    c.loop-span.invariant first last c.tile_at-place.ensures c.place_order-order.ensures (sym c.is_eq.ensures ∙ c.if-is_eq.false) c.is_lt.ensures c.half-span.ensures.low c.half-span.ensures.high

pub returns : goal.returns
returns c = index_nowhere c.args.set.now.state.tiles (place_at c.args.coord) c.loop-span.span.low c.loop-span.span.high (omega (arith, c.loop-span-test.false)) c.loop-span.invariant
