-- what is left is refused as all are
use Rattle.mb_constraints.proofs.Common.{drop, first_refused, missing_reference, rows_kept, ◌≡◌}
use Rattle.mb_constraints.proofs.references.test_references.Given as goal

abbrev pub invariant-loop-row : goal.invariant-loop-row
invariant-loop-row l = first_refused (missing_reference l.layout (rows_kept l.contents.items.items)) l.rows ≡ first_refused (missing_reference l.layout (rows_kept l.contents.items.items)) (drop l.row-index l.rows)
