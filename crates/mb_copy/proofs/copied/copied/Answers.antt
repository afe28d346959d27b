use Rattle.mb_copy.proofs.Common.{ap, bytes_put, err_from_is_err_and, id_collides, may_copy, sym, TileSet, ◌∙◌}
use Rattle.mb_copy.proofs.CopiedLemmas.{copied_is, tests_as, twice_passed, twice_refused}
use Rattle.mb_copy.proofs.copied.copied.Goals as goal

pub returns-in_err-test_duplicates-clause-tests : goal.returns-in_err-test_duplicates-clause-tests
returns-in_err-test_duplicates-clause-tests c =
    let p = err_from_is_err_and c.from_residual.result c.from_residual.ensures.1 in
    rw (p.1, p.2) (λ free. twice_refused c.args.copier.now c.args.source.state c.args.base.state _ (c.in_err-test_duplicates.ensures.0 free), c.in_err-test_duplicates.ensures.1)

pub returns-clause-tests : goal.returns-clause-tests
returns-clause-tests c =
    tests_as (id_collides c.args.base.state.layout c.args.base.state.algorithm c.args.base.state.contents (bytes_put c.in_ok-put.put.state.tiles)) (may_copy c.args.copier.now c.args.source.state c.args.base.state) c.put_over.result
    (ap (λ (x : TileSet). id_collides c.args.base.state.layout c.args.base.state.algorithm c.args.base.state.contents (bytes_put x)) c.in_ok-put.ensures.tiles ∙ sym (twice_passed c.args.copier.now c.args.source.state c.args.base.state c.in_ok-test_duplicates.ensures)) c.put_over.ensures.tests

pub returns-clause-value : goal.returns-clause-value
returns-clause-value c = copied_is c.args.copier.now c.args.made c.args.source.state c.args.base c.in_ok-put.put c.put_over.result c.in_ok-put.ensures.tiles c.in_ok-put.ensures.times c.in_ok-put.ensures.names c.put_over.ensures.value
