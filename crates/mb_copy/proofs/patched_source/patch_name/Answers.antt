use Rattle.mb_copy.proofs.Common.{arith, entries, len-entries, length, value_is_text, ◌<◌}
use Rattle.mb_copy.proofs.patched_source.patch_name.Goals as goal

pub set_metadata-requires : goal.set_metadata-requires
set_metadata-requires c =
    let lt : c.args.index < length (entries c.args.patch.now.state.metadata) = omega (arith, c.requires, len-entries c.args.patch.now.state.metadata) in
    value_is_text (entries c.args.patch.now.state.metadata) c.args.index c.metadata_at.result.0.now c.metadata_at.result.1.now c.in_ok-try_clone-in_default.field-0 lt c.metadata_at.ensures c.in_ok-try_clone-in_default.ensures
