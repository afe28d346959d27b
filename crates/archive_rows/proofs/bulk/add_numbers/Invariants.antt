use Rattle.archive_rows.proofs.Common.{held, List, Options, Some, Writes, ℕ, ◌≡◌}
use Rattle.archive_rows.proofs.bulk.add_numbers.Given as goal

abbrev pub invariant-loop-id : goal.invariant-loop-id
invariant-loop-id l = ((o : Options) × (adds : List (ℕ × List ℕ)) × Writes o (Some (held l.writer.medium.now)) l.writer.state adds) × (l.writer.medium.ghost_name ≡ l.initial.writer.medium.ghost_name)
