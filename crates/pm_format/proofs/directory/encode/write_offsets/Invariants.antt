use Rattle.pm_format.proofs.Common.{drop, IsWritable, map, None, spell_all, starts_from, ℕ, ◌++◌, ◌≡◌}
use Rattle.pm_format.proofs.directory.encode.write_offsets.Given as goal

abbrev pub invariant-loop-entry : goal.invariant-loop-entry
invariant-loop-entry g l = ((last : ℕ) × IsWritable last (map g.E.AsWide.entry (drop l.entry-index l.entries))) × (l.out.items ++ spell_all (starts_from l.end (map g.E.AsWide.entry (drop l.entry-index l.entries))) ≡ l.fn.out.items ++ spell_all (starts_from None (map g.E.AsWide.entry l.entries)))
