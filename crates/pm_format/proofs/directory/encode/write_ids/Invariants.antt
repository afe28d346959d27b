use Rattle.pm_format.proofs.Common.{drop, IsWritable, map, spell_all, steps_from, ◌++◌, ◌≡◌}
use Rattle.pm_format.proofs.directory.encode.write_ids.Given as goal

abbrev pub invariant-loop-entry : goal.invariant-loop-entry
invariant-loop-entry g l = IsWritable l.last (map g.E.AsWide.entry (drop l.entry-index l.entries)) × (l.out.items ++ spell_all (steps_from l.last (map g.E.AsWide.entry (drop l.entry-index l.entries))) ≡ l.fn.out.items ++ spell_all (steps_from 0 (map g.E.AsWide.entry l.entries)))
