use Rattle.mb_copy.proofs.Common.{arith, entries, len-entries, length, value_is_text, ◌<◌}
use Rattle.mb_copy.proofs.names.put_name.Goals as goal

pub set_metadata-requires : goal.set_metadata-requires
set_metadata-requires c =
    let lt : c.args.index < length (entries c.args.put.now.state.metadata) = omega (arith, c.requires, len-entries c.args.put.now.state.metadata) in
    value_is_text (entries c.args.put.now.state.metadata) c.args.index c.metadata_at.result.0.now c.metadata_at.result.1.now c.in_ok-try_clone.field-0 lt c.metadata_at.ensures c.in_ok-try_clone.ensures
