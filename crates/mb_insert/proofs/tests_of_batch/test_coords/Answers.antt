use Rattle.mb_insert.proofs.Common.{err_from_is_err_and}
use Rattle.mb_lists.proofs.Refused.{passes, refuses}
use Rattle.mb_insert.proofs.tests_of_batch.test_coords.Goals as goal

pub returns-in_err-test_coord : goal.returns-in_err-test_coord
returns-in_err-test_coord c =
    let p = err_from_is_err_and c.from_residual.result c.from_residual.ensures.1 in
    rw (p.1, p.2) (λ h. refuses _ _ _ _ _ c.loop-tile-test.true c.tile-item.is c.loop-tile.invariant (c.in_err-test_coord.ensures.0 h), c.in_err-test_coord.ensures.1)

pub loop-tile-preserved : goal.loop-tile-preserved
loop-tile-preserved c = passes _ _ _ _ c.loop-tile-test.true c.tile-item.is c.loop-tile.invariant c.in_ok-test_coord.ensures
