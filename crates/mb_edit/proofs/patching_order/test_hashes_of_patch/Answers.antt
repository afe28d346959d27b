use Rattle.mb_edit.proofs.Common.{after_hash, before_hash, is_some, MbtError, patch_refused, refused_by, Result, subst, sym, Tests, unless_forced, ◌∙◌}
use Rattle.mb_edit.proofs.OrderLemmas.{patch_tests, same_two}
use Rattle.mb_edit.proofs.patching_order.test_hashes_of_patch.Goals as goal

pub returns-clause-answer : goal.returns-clause-answer
returns-clause-answer c =
    c.test_patch_hashes.ensures
    ∙ same_two (λ before after. refused_by (unless_forced c.args.force (patch_refused before after)))
    c.has_text-before.result (is_some (before_hash c.args.patch.now.state.metadata))
    c.has_text-after.result (is_some (after_hash c.args.patch.now.state.metadata))
    c.has_text-before.ensures c.has_text-after.ensures

pub returns-clause-tests : goal.returns-clause-tests
returns-clause-tests c =
    subst (λ (r : Result (Unit {0}) MbtError). Tests (unless_forced c.args.force (patch_refused (is_some (before_hash c.args.patch.now.state.metadata)) (is_some (after_hash c.args.patch.now.state.metadata)))) r) (sym (returns-clause-answer c))
    (patch_tests c.args.force (is_some (before_hash c.args.patch.now.state.metadata)) (is_some (after_hash c.args.patch.now.state.metadata)))
