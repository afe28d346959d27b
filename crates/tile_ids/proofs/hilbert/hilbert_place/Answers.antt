use Rattle.tile_ids.proofs.Common.{arith}
use Rattle.tile_ids.proofs.WalkLemmas.{first, return_begin, return_more, return_below, returned}
use Rattle.tile_ids.proofs.hilbert.hilbert_place.Goals as goal

pub loop-left-init : goal.loop-left-init
loop-left-init c = rw (first c.args.zoom) (return_begin _ _ c.requires.zoom c.requires.number)

pub overflow_mul-column : goal.overflow_mul-column
overflow_mul-column c =
    let s = c.place_entry-entry.ensures in
    let more = return_more _ _ _ _ _ _ c.place_entry-entry.result c.loop-left-test.true c.loop-left.invariant s.sixteenth s.within in
    let low = (return_below _ _ _ _ _ _ c.requires.zoom more).0 in
    record { fits = omega (arith, low) }

pub overflow_add-column : goal.overflow_add-column
overflow_add-column c =
    let s = c.place_entry-entry.ensures in
    let more = return_more _ _ _ _ _ _ c.place_entry-entry.result c.loop-left-test.true c.loop-left.invariant s.sixteenth s.within in
    let low = (return_below _ _ _ _ _ _ c.requires.zoom more).0 in
    record { fits = omega (arith, low) }

pub overflow_mul-row : goal.overflow_mul-row
overflow_mul-row c =
    let s = c.place_entry-entry.ensures in
    let more = return_more _ _ _ _ _ _ c.place_entry-entry.result c.loop-left-test.true c.loop-left.invariant s.sixteenth s.within in
    let low = (return_below _ _ _ _ _ _ c.requires.zoom more).1 in
    record { fits = omega (arith, low) }

pub overflow_add-row : goal.overflow_add-row
overflow_add-row c =
    let s = c.place_entry-entry.ensures in
    let more = return_more _ _ _ _ _ _ c.place_entry-entry.result c.loop-left-test.true c.loop-left.invariant s.sixteenth s.within in
    let low = (return_below _ _ _ _ _ _ c.requires.zoom more).1 in
    record { fits = omega (arith, low) }

pub loop-left-preserved : goal.loop-left-preserved
loop-left-preserved c =
    let s = c.place_entry-entry.ensures in
    rw (c.from.ensures, c.from-in-loop-left.ensures)
    (return_more _ _ _ _ _ _ c.place_entry-entry.result c.loop-left-test.true c.loop-left.invariant s.sixteenth s.within)

pub returns-clause-number : goal.returns-clause-number
returns-clause-number c = (returned _ _ _ _ _ _ c.loop-left-test.false c.requires.number c.loop-left.invariant).number

pub returns-clause-column : goal.returns-clause-column
returns-clause-column c = (returned _ _ _ _ _ _ c.loop-left-test.false c.requires.number c.loop-left.invariant).wide

pub returns-clause-row : goal.returns-clause-row
returns-clause-row c = (returned _ _ _ _ _ _ c.loop-left-test.false c.requires.number c.loop-left.invariant).high
