use Rattle.mb_copy.proofs.Common.{ap, Held, remove, ◌∙◌}
use Rattle.mb_copy.proofs.ClearedLemmas.{all_removed, by_itself, itself, one_name_removed}
use Rattle.mb_copy.proofs.chosen.clear_names.Goals as goal

pub loop-name-preserved : goal.loop-name-preserved
loop-name-preserved c = record {
  names = one_name_removed _ _ _ _ _ _ c.loop-name-test.true c.name-item.is c.loop-name.invariant.names (ap (λ (h : Held). h.state.metadata) c.in_ok-clear_metadata.ensures.ok ∙ ap (remove c.loop-name.set.state.metadata) c.as_str.ensures);
  tiles = ap (λ (h : Held). h.state.tiles) c.in_ok-clear_metadata.ensures.ok ∙ c.loop-name.invariant.tiles;
  times = ap (λ (h : Held). h.state.dates) c.in_ok-clear_metadata.ensures.ok ∙ c.loop-name.invariant.times;
}

pub returns-clause-names : goal.returns-clause-names
returns-clause-names c = all_removed itself _ _ _ _ c.loop-name-test.false c.loop-name.invariant.names ∙ by_itself c.args.set.now.state.metadata c.args.names.now
