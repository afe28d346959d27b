use Rattle.mb_insert.proofs.Common.{drop, length, ◌≡◌, ◌≤◌}
use Rattle.mb_insert.proofs.ChosenLemmas.{missing_of}
use Rattle.mb_insert.proofs.batch.missing_tiles.Given as goal

abbrev pub invariant-loop-left : goal.invariant-loop-left
invariant-loop-left l = record {
  within : l.left ≤ length l.batch;
  made : l.tiles.state.tiles ≡ missing_of l.set.state.tiles (drop l.left l.batch);
}

abbrev pub decreases-loop-left : goal.decreases-loop-left
decreases-loop-left l = l.left
