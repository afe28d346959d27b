-- what is left is refused as all are
use Rattle.mb_constraints.proofs.Common.{drop, first_refused, wrong_tile_hash, ◌≡◌}
use Rattle.mb_constraints.proofs.hashes.test_tile_hashes.Given as goal

abbrev pub invariant-loop-row : goal.invariant-loop-row
invariant-loop-row l = first_refused (wrong_tile_hash l.layout l.algorithm) l.rows ≡ first_refused (wrong_tile_hash l.layout l.algorithm) (drop l.row-index l.rows)
