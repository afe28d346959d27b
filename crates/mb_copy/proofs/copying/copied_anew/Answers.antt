use Rattle.mb_copy.proofs.Common.{ap, fresh, Held, is_editable, made_state, may_copy, ◌∙◌, ◌≡◌}
use Rattle.mb_copy.proofs.CopiedLemmas.{made_is, made_value, tests_as}
use Rattle.mb_copy.proofs.copying.copied_anew.Goals as goal

pub copied-requires-clause-editable : goal.copied-requires-clause-editable
copied-requires-clause-editable c = ap (λ (h : Held). is_editable h.state.layout) c.empty-base.ensures ∙ c.made_type-layout.ensures.editable

pub returns-clause-tests : goal.returns-clause-tests
returns-clause-tests c =
    let base : c.empty-base.result ≡ fresh (made_state c.args.copier.now c.args.source.state) = made_is c.args.copier.now c.args.source.state c.empty-base.result c.mbt_type.result c.made_type-layout.result c.algorithm.result c.wanted_algorithm-algorithm.result c.mbt_type.ensures c.made_type-layout.ensures.layout c.algorithm.ensures c.wanted_algorithm-algorithm.ensures c.empty-base.ensures in
    tests_as (may_copy c.args.copier.now c.args.source.state c.empty-base.result.state) (may_copy c.args.copier.now c.args.source.state (made_state c.args.copier.now c.args.source.state)) c.copied.result (ap (λ (h : Held). may_copy c.args.copier.now c.args.source.state h.state) base) c.copied.ensures.tests

pub returns-clause-value : goal.returns-clause-value
returns-clause-value c =
    made_value c.args.copier.now c.args.source.state c.empty-base.result c.copied.result
    (made_is c.args.copier.now c.args.source.state c.empty-base.result c.mbt_type.result c.made_type-layout.result c.algorithm.result c.wanted_algorithm-algorithm.result c.mbt_type.ensures c.made_type-layout.ensures.layout c.algorithm.ensures c.wanted_algorithm-algorithm.ensures c.empty-base.ensures)
    c.copied.ensures.value
