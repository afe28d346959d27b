-- the last tile at the coordinate among those that are left is the last of all
use Rattle.mb_lists.proofs.Common.{last_at, length, place_at, take, ◌≡◌, ◌≤◌}
use Rattle.mb_lists.proofs.dating.last_contents.Given as goal

abbrev pub invariant-loop-left : goal.invariant-loop-left
invariant-loop-left l = record {
  within : l.left ≤ length l.tiles;
  same : last_at (place_at l.coord) (take l.left l.tiles) ≡ last_at (place_at l.coord) l.tiles;
}

abbrev pub decreases-loop-left : goal.decreases-loop-left
decreases-loop-left l = l.left
