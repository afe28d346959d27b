use Rattle.mb_edit.proofs.Common.{arith, entries, len-entries, name_patched, ◌∙◌}
use Rattle.mb_edit.proofs.FromLast.{none_made, one_before}
use Rattle.mb_edit.proofs.patch.patch_names.Goals as goal

pub loop-left-init : goal.loop-left-init
loop-left-init c =
    let start = none_made name_patched (entries c.args.patch.now.state.metadata) c.metadata_count-left.result c.args.set.now (c.metadata_count-left.ensures ∙ len-entries c.args.patch.now.state.metadata) in
    record { within = start.0; made = start.1 }

pub loop-left-preserved : goal.loop-left-preserved
loop-left-preserved c =
    let next = one_before name_patched (entries c.args.patch.now.state.metadata) c.loop-left.left c.args.set.now c.loop-left.set c.patch_name.new.set c.loop-left-test.true c.loop-left.invariant.within c.loop-left.invariant.made c.in_ok-patch_name.ensures in
    record { within = next.0; made = next.1 }

pub patch_name-requires : goal.patch_name-requires
patch_name-requires c = omega (arith, c.loop-left-test.true, c.loop-left.invariant.within, len-entries c.args.patch.now.state.metadata)
