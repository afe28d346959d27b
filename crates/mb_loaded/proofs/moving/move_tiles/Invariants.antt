use Rattle.mb_loaded.proofs.Common.{AreLeft, drop, Edits, IsCopying, length, tiles_copied, ◌≤◌}
use Rattle.mb_loaded.proofs.moving.move_tiles.Given as goal

abbrev pub invariant-loop-left : goal.invariant-loop-left
invariant-loop-left l = record {
  within : l.left ≤ length l.tiles;
  copying : IsCopying l.fn.others.items l.copying;
  others : AreLeft l.fn.others.items l.others.items l.copying.copies.items;
  edits : Edits (tiles_copied l.fn.others.items (drop l.left l.tiles)) l.initial.copying l.copying;
}

abbrev pub decreases-loop-left : goal.decreases-loop-left
decreases-loop-left l = l.left
