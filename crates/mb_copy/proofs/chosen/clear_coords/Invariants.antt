-- what is left, cleared from what was left of the set, gives what all give
use Rattle.mb_copy.proofs.Common.{drop, place_at, ◌≡◌}
use Rattle.mb_copy.proofs.ClearedLemmas.{removed_by}
use Rattle.mb_copy.proofs.chosen.clear_coords.Given as goal

abbrev pub invariant-loop-coord : goal.invariant-loop-coord
invariant-loop-coord l = record {
  tiles : removed_by place_at l.set.state.tiles (drop l.coord-index l.coords) ≡ removed_by place_at l.fn.set.state.tiles l.coords;
  times : removed_by place_at l.set.state.dates (drop l.coord-index l.coords) ≡ removed_by place_at l.fn.set.state.dates l.coords;
  names : l.set.state.metadata ≡ l.fn.set.state.metadata;
}
