use Rattle.pm_format.proofs.Common.{drop, map, spell_all, ◌++◌, ◌≡◌}
use Rattle.pm_format.proofs.directory.encode.write_runs.Given as goal

abbrev pub invariant-loop-entry : goal.invariant-loop-entry
invariant-loop-entry g l = l.out.items ++ spell_all (map (λ e. e.run_length) (map g.E.AsWide.entry (drop l.entry-index l.entries))) ≡ l.fn.out.items ++ spell_all (map (λ e. e.run_length) (map g.E.AsWide.entry l.entries))
