use Rattle.tile_ids.proofs.Common.{arith}
use Rattle.tile_ids.proofs.Curve.{hilbert_below}
use Rattle.tile_ids.proofs.WalkLemmas.{first, walk_begin, walk_more, walk_below, walked}
use Rattle.tile_ids.proofs.hilbert.hilbert_number.Goals as goal

pub loop-left-init : goal.loop-left-init
loop-left-init c = rw (first c.args.zoom) (walk_begin _ _ _ c.requires.zoom c.requires.column c.requires.row)

pub overflow_mul-number : goal.overflow_mul-number
overflow_mul-number c =
    let s = c.number_entry-entry.ensures in
    let more = walk_more _ _ _ _ _ _ c.number_entry-entry.result c.loop-left-test.true c.loop-left.invariant s.sixteenth s.within in
    let low = walk_below _ _ _ _ _ _ c.requires.zoom more in
    record { fits = omega (arith, low) }

pub overflow_add-number : goal.overflow_add-number
overflow_add-number c =
    let s = c.number_entry-entry.ensures in
    let more = walk_more _ _ _ _ _ _ c.number_entry-entry.result c.loop-left-test.true c.loop-left.invariant s.sixteenth s.within in
    let low = walk_below _ _ _ _ _ _ c.requires.zoom more in
    record { fits = omega (arith, low) }

pub loop-left-preserved : goal.loop-left-preserved
loop-left-preserved c =
    let s = c.number_entry-entry.ensures in
    rw c.from.ensures (walk_more _ _ _ _ _ _ c.number_entry-entry.result c.loop-left-test.true c.loop-left.invariant s.sixteenth s.within)

pub returns-clause-value : goal.returns-clause-value
returns-clause-value c = walked _ _ _ _ _ _ c.loop-left-test.false c.loop-left.invariant

pub returns-clause-below : goal.returns-clause-below
returns-clause-below c =
    let same = walked _ _ _ _ _ _ c.loop-left-test.false c.loop-left.invariant in
    omega (arith, same, hilbert_below c.args.zoom (c.args.x, c.args.y))
