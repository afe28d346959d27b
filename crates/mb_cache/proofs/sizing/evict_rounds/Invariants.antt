use Rattle.mb_cache.proofs.Common.{Agrees, Keeps, length, live_size_of, true, WithoutRounds, ◌≡◌}
use Rattle.mb_cache.proofs.RoundLemmas.{Rounds}
use Rattle.mb_cache.proofs.sizing.evict_rounds.Given as goal

abbrev pub invariant-loop-size : goal.invariant-loop-size
invariant-loop-size g l = record {
  kept : Keeps g.S.TileStore.tells g.S.TileStore.faults g.S.TileStore.steady l.fn.store l.store;
  still : g.S.TileStore.faults l.store ≡ g.S.TileStore.faults l.fn.store;
  cut : WithoutRounds l.fn.entries.keys l.entries.keys;
  live : g.S.TileStore.tells l.fn.store ≡ true → l.size ≡ live_size_of (g.S.TileStore.told l.store);
  agrees : g.S.TileStore.tells l.fn.store ≡ true → Agrees (g.S.TileStore.told l.store) l.entries.keys;
  rounds : g.S.TileStore.tells l.fn.store ≡ true → Rounds l.most l.fn.entries.keys l.entries.keys (g.S.TileStore.told l.fn.store) (g.S.TileStore.told l.store);
}

abbrev pub decreases-loop-size : goal.decreases-loop-size
decreases-loop-size g l = length l.entries.keys
