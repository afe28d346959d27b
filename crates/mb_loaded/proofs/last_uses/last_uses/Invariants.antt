use Rattle.mb_loaded.proofs.Common.{length, ◌-◌, ◌≡◌, ◌≤◌}
use Rattle.mb_loaded.proofs.TakenLemmas.{LastBelow}
use Rattle.mb_loaded.proofs.last_uses.last_uses.Given as goal

abbrev pub invariant-loop-index : goal.invariant-loop-index
invariant-loop-index l = record {
  within : l.index ≤ length l.tiles;
  each : length l.last.items ≡ l.count;
  noted : LastBelow l.index l.tiles l.last.items;
}

abbrev pub decreases-loop-index : goal.decreases-loop-index
decreases-loop-index l = length l.tiles - l.index
