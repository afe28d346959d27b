-- the names so far are copied
use Rattle.set_options.proofs.Common.{entries, map, stored_name, take, ◌≡◌}
use Rattle.set_options.proofs.set_names.all_stored.Given as goal

abbrev pub invariant-loop-index : goal.invariant-loop-index
invariant-loop-index l = l.names.items ≡ map stored_name (take l.index (entries l.set.state.metadata))
