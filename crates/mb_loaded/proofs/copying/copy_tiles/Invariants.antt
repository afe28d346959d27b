use Rattle.mb_loaded.proofs.Common.{drop, Edits, IsCopying, length, tiles_copied, ◌≤◌}
use Rattle.mb_loaded.proofs.copying.copy_tiles.Given as goal

abbrev pub invariant-loop-left : goal.invariant-loop-left
invariant-loop-left l = record {
  within : l.left ≤ length l.tiles;
  copying : IsCopying l.others l.copying;
  edits : Edits (tiles_copied l.others (drop l.left l.tiles)) l.initial.copying l.copying;
}

abbrev pub decreases-loop-left : goal.decreases-loop-left
decreases-loop-left l = l.left
