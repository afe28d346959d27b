-- the contents of the marks so far are added
use Rattle.tile_streaming.proofs.Common.{AreAdded, false, has_failed, KeepsMedium, Options, ReadsOnly, take, Writes, [], ◌≡◌, stored_in}
use Rattle.tile_streaming.proofs.writing.add_marks.Given as goal

abbrev pub invariant-loop-mark : goal.invariant-loop-mark
invariant-loop-mark g l =
    ((o : Options) → Writes o (g.M.Backend.told l.fn.medium) l.fn.state [] → AreAdded o (g.S.TileStore.tells l.fn.store) (stored_in l.set (g.S.TileStore.told l.fn.store)) (take l.mark-index l.marks) (g.M.Backend.told l.fn.medium) (g.M.Backend.told l.medium) l.state)
    × (has_failed l.state ≡ false)
    × ReadsOnly g.S.TileStore.told g.S.TileStore.tells g.S.TileStore.faults g.S.TileStore.steady l.fn.store l.store
    × KeepsMedium g.M.Backend.told g.M.Backend.versions g.M.Backend.reads g.M.Backend.faults g.M.Backend.steady l.fn.medium l.medium
    × (g.S.TileStore.faults l.store ≡ g.S.TileStore.faults l.fn.store)
    × (g.M.Backend.faults l.medium ≡ g.M.Backend.faults l.fn.medium)
