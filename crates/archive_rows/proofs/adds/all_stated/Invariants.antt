use Rattle.archive_rows.proofs.Common.{held, List, Options, Some, Writes, ℕ}
use Rattle.archive_rows.proofs.adds.all_stated.Given as goal

abbrev pub invariant-loop-turn : goal.invariant-loop-turn
invariant-loop-turn l = (o : Options) × (adds : List (ℕ × List ℕ)) × Writes o (Some (held l.medium)) l.state adds
