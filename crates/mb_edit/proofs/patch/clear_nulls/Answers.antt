use Rattle.mb_edit.proofs.Common.{arith, entries, len-entries, null_cleared, ◌∙◌}
use Rattle.mb_edit.proofs.FromLast.{none_made, one_before}
use Rattle.mb_edit.proofs.patch.clear_nulls.Goals as goal

pub loop-left-init : goal.loop-left-init
loop-left-init c =
    let start = none_made null_cleared (entries c.args.patch.now.state.metadata) c.metadata_count-left.result c.args.set.now (c.metadata_count-left.ensures ∙ len-entries c.args.patch.now.state.metadata) in
    record { within = start.0; made = start.1 }

pub loop-left-preserved : goal.loop-left-preserved
loop-left-preserved c =
    let next = one_before null_cleared (entries c.args.patch.now.state.metadata) c.loop-left.left c.args.set.now c.loop-left.set c.clear_null.new.set c.loop-left-test.true c.loop-left.invariant.within c.loop-left.invariant.made c.in_ok-clear_null.ensures in
    record { within = next.0; made = next.1 }

pub clear_null-requires : goal.clear_null-requires
clear_null-requires c = omega (arith, c.loop-left-test.true, c.loop-left.invariant.within, len-entries c.args.patch.now.state.metadata)
