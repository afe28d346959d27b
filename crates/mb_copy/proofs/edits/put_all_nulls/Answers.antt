use Rattle.mb_copy.proofs.Common.{arith, entries, len-entries, none_made, null_put, one_before, ◌∙◌}
use Rattle.mb_copy.proofs.edits.put_all_nulls.Goals as goal

pub loop-left-init : goal.loop-left-init
loop-left-init c =
    let start = none_made null_put (entries c.args.put.now.state.tiles) c.tile_count-left.result c.args.set.now (c.tile_count-left.ensures ∙ len-entries c.args.put.now.state.tiles) in
    record { within = start.0; made = start.1 }

pub loop-left-preserved : goal.loop-left-preserved
loop-left-preserved c =
    let next = one_before null_put (entries c.args.put.now.state.tiles) c.loop-left.left c.args.set.now c.loop-left.set c.put_null.new.set c.loop-left-test.true c.loop-left.invariant.within c.loop-left.invariant.made c.in_ok-put_null.ensures in
    record { within = next.0; made = next.1 }

pub put_null-requires : goal.put_null-requires
put_null-requires c = omega (arith, c.loop-left-test.true, c.loop-left.invariant.within, len-entries c.args.put.now.state.tiles)
