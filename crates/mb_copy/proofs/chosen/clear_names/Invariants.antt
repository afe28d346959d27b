-- what is left, cleared from what was left of the set, gives what all give
use Rattle.mb_copy.proofs.Common.{drop, ◌≡◌}
use Rattle.mb_copy.proofs.ClearedLemmas.{itself, removed_by}
use Rattle.mb_copy.proofs.chosen.clear_names.Given as goal

abbrev pub invariant-loop-name : goal.invariant-loop-name
invariant-loop-name l = record {
  names : removed_by itself l.set.state.metadata (drop l.name-index l.names) ≡ removed_by itself l.fn.set.state.metadata l.names;
  tiles : l.set.state.tiles ≡ l.fn.set.state.tiles;
  times : l.set.state.dates ≡ l.fn.set.state.dates;
}
