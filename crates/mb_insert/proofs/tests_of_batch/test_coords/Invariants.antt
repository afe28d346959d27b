-- what is left is refused as all are
use Rattle.mb_insert.proofs.Common.{bad_coord, drop, first_refused, ◌≡◌}
use Rattle.mb_insert.proofs.tests_of_batch.test_coords.Given as goal

abbrev pub invariant-loop-tile : goal.invariant-loop-tile
invariant-loop-tile l = first_refused bad_coord l.batch ≡ first_refused bad_coord (drop l.tile-index l.batch)
