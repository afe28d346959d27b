use Rattle.tile_extract.proofs.Common.{ap, arith, ◌*◌, ◌+◌, ◌-◌, ◌^◌, ◌≡◌}
use Rattle.tile_extract.proofs.NumberLemmas.{pyramid_is, quadrant_below}
use Rattle.tile_ids.proofs.Curve.{area_of, four_pos}
use Rattle.tile_extract.proofs.quadrants.block_of.Goals as goal

pub overflow_mul-first : goal.overflow_mul-first
overflow_mul-first c =
    let e = ap (λ k. c.args.number * k) (area_of (c.args.zoom - c.args.level) (omega (arith, c.requires.zoom))) in
    omega (arith, e, quadrant_below c.args.zoom c.args.level c.args.number c.requires.level c.requires.zoom c.requires.number)

pub overflow_add-first : goal.overflow_add-first
overflow_add-first c =
    let e = ap (λ k. c.args.number * k) (area_of (c.args.zoom - c.args.level) (omega (arith, c.requires.zoom))) in
    omega (arith, e, pyramid_is c.args.zoom c.requires.zoom, quadrant_below c.args.zoom c.args.level c.args.number c.requires.level c.requires.zoom c.requires.number)

pub overflow_add-result : goal.overflow_add-result
overflow_add-result c =
    let a = area_of (c.args.zoom - c.args.level) (omega (arith, c.requires.zoom)) in
    let e = ap (λ k. c.args.number * k) a in
    omega (arith, a, e, pyramid_is c.args.zoom c.requires.zoom, quadrant_below c.args.zoom c.args.level c.args.number c.requires.level c.requires.zoom c.requires.number)

pub returns-clause-first : goal.returns-clause-first
returns-clause-first c =
    let e = ap (λ k. c.args.number * k) (area_of (c.args.zoom - c.args.level) (omega (arith, c.requires.zoom))) in
    omega (arith, e, pyramid_is c.args.zoom c.requires.zoom)

pub returns-clause-last : goal.returns-clause-last
returns-clause-last c =
    let a = area_of (c.args.zoom - c.args.level) (omega (arith, c.requires.zoom)) in
    let e = ap (λ k. c.args.number * k) a in
    let next : (c.args.number + 1) * 4 ^ (c.args.zoom - c.args.level) ≡ c.args.number * 4 ^ (c.args.zoom - c.args.level) + 4 ^ (c.args.zoom - c.args.level) = omega arith in
    omega (arith, a, e, next, pyramid_is c.args.zoom c.requires.zoom, four_pos (c.args.zoom - c.args.level))
