use Rattle.mb_loaded.proofs.Common.{filter_map, name_change, take, ◌++◌, ◌≡◌}
use Rattle.mb_loaded.proofs.changes.add_names.Given as goal

abbrev pub invariant-loop-entry : goal.invariant-loop-entry
invariant-loop-entry l = l.changes ≡ l.fn.changes ++ filter_map name_change (take l.entry-index l.names)
