use Rattle.tile_ids.proofs.Common.{ap, arith, refl, ◌-◌, ◌^◌, ◌∙◌, ◌≤◌}
use Rattle.tile_ids.proofs.Curve.{area_of, area_below}
use Rattle.tile_ids.proofs.SubtreeLemmas.{block_below}
use Rattle.tile_ids.proofs.interval.block.Goals as goal

-- the count of descendants, in the code's words
pub returns-clause-count : goal.returns-clause-count
returns-clause-count c =
    let z = c.z-top.ensures.value in
    area_of (c.args.zoom - c.z-top.result) (omega (arith, c.requires.zoom)) ∙ ap (λ n. 4 ^ (c.args.zoom - n)) z

pub overflow_mul-result : goal.overflow_mul-result
overflow_mul-result c =
    let low : c.z-top.result ≤ c.args.zoom = omega (arith, c.z-top.ensures.value, c.requires.below) in
    let room = block_below c.z-top.result c.args.zoom c.hilbert_number-number.result low c.hilbert_number-number.ensures.below in
    rw (area_of (c.args.zoom - c.z-top.result) (omega (arith, c.requires.zoom))) record { fits = omega (arith, room, area_below c.args.zoom c.requires.zoom) }

pub overflow_add-result : goal.overflow_add-result
overflow_add-result c =
    let low : c.z-top.result ≤ c.args.zoom = omega (arith, c.z-top.ensures.value, c.requires.below) in
    let room = block_below c.z-top.result c.args.zoom c.hilbert_number-number.result low c.hilbert_number-number.ensures.below in
    let below = area_below c.args.zoom c.requires.zoom in
    rw (area_of (c.args.zoom - c.z-top.result) (omega (arith, c.requires.zoom))) record { fits = omega (arith, room, below, c.pyramid_size.ensures) }

pub returns-clause-first : goal.returns-clause-first
returns-clause-first c =
    rw (area_of (c.args.zoom - c.z-top.result) (omega (arith, c.requires.zoom)), c.pyramid_size.ensures, c.hilbert_number-number.ensures.value, c.z-top.ensures.value, c.x.ensures, c.y.ensures) refl
