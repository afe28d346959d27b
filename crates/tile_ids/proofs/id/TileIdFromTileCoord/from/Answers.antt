use Rattle.tile_ids.proofs.Common.{arith, refl, tile_id, ◌≤◌}
use Rattle.tile_ids.proofs.Curve.{within_pyramid}
use Rattle.tile_ids.proofs.id.TileIdFromTileCoord.from.Goals as goal

pub overflow_add-result : goal.overflow_add-result
overflow_add-result c =
    let low : c.z-zoom.result ≤ 31 = omega (arith, c.z-zoom.ensures.value, c.z-zoom.ensures.within.zoom) in
    let most = within_pyramid _ _ low c.hilbert_number-number.ensures.below in
    record { fits = omega (arith, most, c.pyramid_size.ensures) }

pub invariant_of-result : goal.invariant_of-result
invariant_of-result c =
    let low : c.z-zoom.result ≤ 31 = omega (arith, c.z-zoom.ensures.value, c.z-zoom.ensures.within.zoom) in
    let most = within_pyramid _ _ low c.hilbert_number-number.ensures.below in
    rw c.pyramid_size.ensures most

pub returns : goal.returns
unfolding tile_id
returns c = rw (c.pyramid_size.ensures, c.hilbert_number-number.ensures.value, c.z-zoom.ensures.value, c.x.ensures, c.y.ensures) refl
