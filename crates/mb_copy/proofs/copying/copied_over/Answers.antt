use Rattle.mb_copy.proofs.Common.{ap, asked_type, err_from_is_err_and, holds, is_editable, kind_wrong, may_copy, may_copy_over, sym, unless, UnsupportedCopyOperation, ◌∙◌}
use Rattle.mb_copy.proofs.CopiedLemmas.{both_passed, edit_refused, kind_refused, tests_as}
use Rattle.mb_copy.proofs.copying.copied_over.Goals as goal

pub returns-in_err-test_kind-clause-tests : goal.returns-in_err-test_kind-clause-tests
returns-in_err-test_kind-clause-tests c =
    let p = err_from_is_err_and c.from_residual.result c.from_residual.ensures.1 in
    rw (p.1, p.2) (λ free. kind_refused c.args.copier.now c.args.source.state c.args.base.state _ (ap (λ l. kind_wrong l (asked_type c.args.copier.now)) (sym c.mbt_type.ensures) ∙ c.in_err-test_kind.ensures.0 free), c.in_err-test_kind.ensures.1)

pub returns-in_err-test_editable-clause-tests : goal.returns-in_err-test_editable-clause-tests
returns-in_err-test_editable-clause-tests c =
    let p = err_from_is_err_and c.from_residual-in_err-test_editable.result c.from_residual-in_err-test_editable.ensures.1 in
    rw (p.1, p.2) (λ free. edit_refused c.args.copier.now c.args.source.state c.args.base.state _ (ap (λ l. kind_wrong l (asked_type c.args.copier.now)) (sym c.mbt_type.ensures) ∙ c.in_ok-test_kind.ensures) (ap (λ l. unless (is_editable l) UnsupportedCopyOperation) (sym c.mbt_type-2.ensures) ∙ c.in_err-test_editable.ensures.tests.0 free), c.in_err-test_editable.ensures.tests.1)

pub copied-requires-clause-editable : goal.copied-requires-clause-editable
copied-requires-clause-editable c = holds (is_editable c.args.base.state.layout) UnsupportedCopyOperation (ap (λ l. unless (is_editable l) UnsupportedCopyOperation) (sym c.mbt_type-2.ensures) ∙ c.in_ok-test_editable.ensures.tests)

pub returns-clause-tests : goal.returns-clause-tests
returns-clause-tests c =
    tests_as (may_copy c.args.copier.now c.args.source.state c.args.base.state) (may_copy_over c.args.copier.now c.args.source.state c.args.base.state) c.copied.result
    (sym (both_passed c.args.copier.now c.args.source.state c.args.base.state (ap (λ l. kind_wrong l (asked_type c.args.copier.now)) (sym c.mbt_type.ensures) ∙ c.in_ok-test_kind.ensures) (ap (λ l. unless (is_editable l) UnsupportedCopyOperation) (sym c.mbt_type-2.ensures) ∙ c.in_ok-test_editable.ensures.tests))) c.copied.ensures.tests
