-- the archive of what the adds so far are taken for is begun
use Rattle.tile_bridge.proofs.Common.{false, has_failed, KeepsMedium, List, Options, shown, take, TookAll, Writes, ℕ, [], ◌≡◌}
use Rattle.tile_bridge.proofs.writing.add_all.Given as goal

abbrev pub invariant-loop-index : goal.invariant-loop-index
invariant-loop-index g l =
    ((o : Options) → Writes o (g.M.Backend.told l.fn.medium) l.fn.state []
    → (taken : List (ℕ × List ℕ)) × TookAll (g.M.Backend.told l.fn.medium) (take l.index (shown l.set.state.tiles l.adds)) taken × Writes o (g.M.Backend.told l.medium) l.state taken)
    × (has_failed l.state ≡ false)
    × KeepsMedium g.M.Backend.told g.M.Backend.versions g.M.Backend.reads g.M.Backend.faults g.M.Backend.steady l.fn.medium l.medium
    × (g.M.Backend.faults l.medium ≡ g.M.Backend.faults l.fn.medium)
