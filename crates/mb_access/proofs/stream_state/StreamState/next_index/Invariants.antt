use Rattle.mb_access.proofs.Common.{length, ◌+◌, ◌-◌}
use Rattle.mb_access.proofs.StreamLoop.{Streaming}
use Rattle.mb_access.proofs.stream_state.StreamState.next_index.Given as goal

abbrev pub invariant-loop-self : goal.invariant-loop-self
invariant-loop-self g l = Streaming g.S.TileStore.told g.S.TileStore.tells g.S.TileStore.faults g.S.TileStore.steady l.fn.self l.self l.fn.store l.store

abbrev pub decreases-loop-self : goal.decreases-loop-self
decreases-loop-self g l = l.self.left + (length l.self.page.items - l.self.at + (l.self.rows - l.self.from))
