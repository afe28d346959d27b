use Rattle.tile_bridge.proofs.Common.{◌≤◌}
use Rattle.tile_bridge.proofs.writing.count_entries.Given as goal

abbrev pub invariant-loop-index : goal.invariant-loop-index
invariant-loop-index l = l.count ≤ l.index
