use Rattle.mb_constraints.proofs.Common.{err_from_is_err_and, passes, refuses}
use Rattle.mb_constraints.proofs.hashes.test_content_hashes.Goals as goal

pub returns-in_err-test_content_hash : goal.returns-in_err-test_content_hash
returns-in_err-test_content_hash c =
    let p = err_from_is_err_and c.from_residual.result c.from_residual.ensures.1 in
    rw (p.1, p.2) (λ h. refuses _ _ _ _ _ c.loop-content-test.true c.content-item.is c.loop-content.invariant (c.in_err-test_content_hash.ensures.0 h), c.in_err-test_content_hash.ensures.1)

pub loop-content-preserved : goal.loop-content-preserved
loop-content-preserved c = passes _ _ _ _ c.loop-content-test.true c.content-item.is c.loop-content.invariant c.in_ok-test_content_hash.ensures
