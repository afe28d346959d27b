use Rattle.mb_cache.proofs.Common.{Cell, length, List, ReadsOnly, SeesRows, take, TileCache, true, ◌-◌, ◌≡◌, ◌≤◌}
use Rattle.mb_cache.proofs.pages.read_rows.Given as goal

abbrev pub invariant-loop-left : goal.invariant-loop-left
invariant-loop-left g l = record {
  kept : ReadsOnly g.S.TileStore.told g.S.TileStore.tells g.S.TileStore.faults g.S.TileStore.steady l.fn.store l.store;
  still : g.S.TileStore.faults l.store ≡ g.S.TileStore.faults l.fn.store;
  counted : g.S.TileStore.tells l.fn.store ≡ true → l.count ≡ length ((g.S.TileStore.told l.fn.store).rows TileCache);
  within : l.left ≤ l.count;
  seen : g.S.TileStore.tells l.fn.store ≡ true → SeesRows (take (l.count - l.left) ((g.S.TileStore.told l.fn.store).rows TileCache)) l.seen;
  own : (rows : List (List Cell)) × SeesRows rows l.seen;
}

abbrev pub decreases-loop-left : goal.decreases-loop-left
decreases-loop-left g l = l.left
