use Rattle.mb_edit.proofs.Common.{AreMarked, digest, drop, entries, filter_map, length, ◌≤◌}
use Rattle.mb_edit.proofs.collision.test_contents.Given as goal

abbrev pub invariant-loop-left : goal.invariant-loop-left
invariant-loop-left l = record {
  within : l.left ≤ length (entries l.patch.state.tiles);
  marked : AreMarked (digest l.base.state.algorithm) l.base.state.contents (entries l.patch.state.tiles) (filter_map (λ e. e.1) (drop l.left (entries l.patch.state.tiles))) l.marks;
}

abbrev pub decreases-loop-left : goal.decreases-loop-left
decreases-loop-left l = l.left
