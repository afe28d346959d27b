use Rattle.mb_constraints.proofs.Common.{err_from_is_err_and, passes, refuses}
use Rattle.mb_constraints.proofs.references.test_references.Goals as goal

pub returns-in_err-test_reference : goal.returns-in_err-test_reference
returns-in_err-test_reference c =
    let p = err_from_is_err_and c.from_residual.result c.from_residual.ensures.1 in
    rw (p.1, p.2) (λ h. refuses _ _ _ _ _ c.loop-row-test.true c.row-item.is c.loop-row.invariant (c.in_err-test_reference.ensures.0 h), c.in_err-test_reference.ensures.1)

pub loop-row-preserved : goal.loop-row-preserved
loop-row-preserved c = passes _ _ _ _ c.loop-row-test.true c.row-item.is c.loop-row.invariant c.in_ok-test_reference.ensures
