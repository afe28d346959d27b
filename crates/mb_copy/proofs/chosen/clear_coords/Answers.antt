use Rattle.mb_copy.proofs.Common.{ap, Held, place_at, ◌∙◌}
use Rattle.mb_copy.proofs.ClearedLemmas.{all_removed, by_keys, one_removed}
use Rattle.mb_copy.proofs.chosen.clear_coords.Goals as goal

pub loop-coord-preserved : goal.loop-coord-preserved
loop-coord-preserved c = record {
  tiles = one_removed place_at _ _ _ _ _ _ c.loop-coord-test.true c.coord-item.is c.loop-coord.invariant.tiles (ap (λ (h : Held). h.state.tiles) c.in_ok-clear_tile.ensures.ok);
  times = one_removed place_at _ _ _ _ _ _ c.loop-coord-test.true c.coord-item.is c.loop-coord.invariant.times (ap (λ (h : Held). h.state.dates) c.in_ok-clear_tile.ensures.ok);
  names = ap (λ (h : Held). h.state.metadata) c.in_ok-clear_tile.ensures.ok ∙ c.loop-coord.invariant.names;
}

pub returns-clause-tiles : goal.returns-clause-tiles
returns-clause-tiles c = all_removed place_at _ _ _ _ c.loop-coord-test.false c.loop-coord.invariant.tiles ∙ by_keys place_at c.args.set.now.state.tiles c.args.coords.now

pub returns-clause-times : goal.returns-clause-times
returns-clause-times c = all_removed place_at _ _ _ _ c.loop-coord-test.false c.loop-coord.invariant.times ∙ by_keys place_at c.args.set.now.state.dates c.args.coords.now
