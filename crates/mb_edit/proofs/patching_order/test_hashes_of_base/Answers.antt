use Rattle.mb_edit.proofs.Common.{after_hash, agg_hash, base_refused, before_hash, is_some, MbtError, refused_by, Result, subst, sym, Tests, unless_forced, ◌∙◌}
use Rattle.mb_edit.proofs.OrderLemmas.{base_tests, same_three}
use Rattle.mb_edit.proofs.patching_order.test_hashes_of_base.Goals as goal

pub returns-clause-answer : goal.returns-clause-answer
returns-clause-answer c =
    c.test_base_hashes.ensures
    ∙ same_three (λ agg before after. refused_by (unless_forced c.args.force (base_refused agg before after)))
    c.has_text-agg.result (is_some (agg_hash c.args.base.now.state.metadata))
    c.has_text-before.result (is_some (before_hash c.args.base.now.state.metadata))
    c.has_text-after.result (is_some (after_hash c.args.base.now.state.metadata))
    c.has_text-agg.ensures c.has_text-before.ensures c.has_text-after.ensures

pub returns-clause-tests : goal.returns-clause-tests
returns-clause-tests c =
    subst (λ (r : Result (Unit {0}) MbtError). Tests (unless_forced c.args.force (base_refused (is_some (agg_hash c.args.base.now.state.metadata)) (is_some (before_hash c.args.base.now.state.metadata)) (is_some (after_hash c.args.base.now.state.metadata)))) r) (sym (returns-clause-answer c))
    (base_tests c.args.force (is_some (agg_hash c.args.base.now.state.metadata)) (is_some (before_hash c.args.base.now.state.metadata)) (is_some (after_hash c.args.base.now.state.metadata)))
