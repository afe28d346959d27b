use Rattle.mb_tree.proofs.Common.{err_from_is_err_and}
use Rattle.mb_lists.proofs.Refused.{passes, refuses}
use Rattle.mb_tree.proofs.tests_of_paths.test_each.Goals as goal

pub returns-in_err-test_path : goal.returns-in_err-test_path
returns-in_err-test_path c =
    let p = err_from_is_err_and c.from_residual.result c.from_residual.ensures.1 in
    rw (p.1, p.2) (λ h. refuses _ _ _ _ _ c.loop-path-test.true c.path-item.is c.loop-path.invariant (c.in_err-test_path.ensures.0 h), c.in_err-test_path.ensures.1)

pub loop-path-preserved : goal.loop-path-preserved
loop-path-preserved c = passes _ _ _ _ c.loop-path-test.true c.path-item.is c.loop-path.invariant c.in_ok-test_path.ensures
