use Rattle.mb_cache.proofs.Common.{min, ReadsOnly, sizes_at, take, true, ◌-◌, ◌^◌, ◌≡◌}
use Rattle.mb_cache.proofs.sizing.sizes_of.Given as goal

abbrev pub invariant-loop-entry : goal.invariant-loop-entry
invariant-loop-entry g l = record {
  kept : ReadsOnly g.S.TileStore.told g.S.TileStore.tells g.S.TileStore.faults g.S.TileStore.steady l.fn.store l.store;
  still : g.S.TileStore.faults l.store ≡ g.S.TileStore.faults l.fn.store;
  size : g.S.TileStore.tells l.fn.store ≡ true → l.size ≡ min (sizes_at (g.S.TileStore.told l.fn.store) (take l.entry-index l.entries)) (2 ^ 64 - 1);
}
