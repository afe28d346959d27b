use Rattle.mb_copy.proofs.Common.{err_from_is_err_and, sym, ◌∙◌}
use Rattle.mb_copy.proofs.HashLemmas.{anew_passed, anew_refused, hash_of_copy, hash_off_copy}
use Rattle.mb_copy.proofs.copying.copied_after.Goals as goal

pub test_expected-requires : goal.test_expected-requires
test_expected-requires c h = hash_of_copy c.args.copier.now c.args.source.state c.in_ok-next.next c.in_ok-next.ensures.value h

pub returns-in_err-next-clause-tests : goal.returns-in_err-next-clause-tests
returns-in_err-next-clause-tests c =
    let p = err_from_is_err_and c.from_residual.result c.from_residual.ensures.1 in
    rw (p.1, p.2) (λ free. anew_refused c.args.copier.now c.args.after c.args.source.state _ (c.in_err-next.ensures.tests.0 free), c.in_err-next.ensures.tests.1)

pub returns-in_err-test_expected-clause-tests : goal.returns-in_err-test_expected-clause-tests
returns-in_err-test_expected-clause-tests c =
    let p = err_from_is_err_and c.from_residual-in_err-test_expected.result c.from_residual-in_err-test_expected.ensures.1 in
    rw (p.1, p.2) (λ free. anew_passed c.args.copier.now c.args.after c.args.source.state c.in_ok-next.ensures.tests ∙ (sym (hash_off_copy c.args.copier.now c.args.after c.args.source.state c.in_ok-next.next c.in_ok-next.ensures.value) ∙ c.in_err-test_expected.ensures.0 free), c.in_err-test_expected.ensures.1)

pub returns-clause-tests : goal.returns-clause-tests
returns-clause-tests c =
    anew_passed c.args.copier.now c.args.after c.args.source.state c.in_ok-next.ensures.tests ∙ (sym (hash_off_copy c.args.copier.now c.args.after c.args.source.state c.in_ok-next.next c.in_ok-next.ensures.value) ∙ c.in_ok-test_expected.ensures)
