use Rattle.set_options.proofs.Common.{arith, entries, len-entries, length, ◌<◌}
use Rattle.set_options.proofs.SetNameLemmas.{value_is_text}
use Rattle.set_options.proofs.set_names.put_name.Goals as goal

pub set_metadata-requires : goal.set_metadata-requires
set_metadata-requires c =
    let far : c.args.index < length (entries c.args.names.now) = omega (arith, c.requires, len-entries c.args.names.now) in
    value_is_text (entries c.args.names.now) c.args.index c.name_at.result.0.now c.name_at.result.1.now c.in_ok-try_clone.field-0 far c.name_at.ensures c.in_ok-try_clone.ensures
