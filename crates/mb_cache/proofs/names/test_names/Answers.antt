use Rattle.mb_cache.proofs.Common.{algorithm_unknown, ap, err_from_is_err_and, option_copied, option_or, sym, unknown_name, ◌∙◌}
use Rattle.mb_cache.proofs.NamedLemmas.{algorithm_stored}
use Rattle.mb_cache.proofs.names.test_names.Goals as goal

pub returns-in_err-algorithm_by : goal.returns-in_err-algorithm_by
returns-in_err-algorithm_by c =
    let p = err_from_is_err_and c.from_residual-in_err-algorithm_by.result c.from_residual-in_err-algorithm_by.ensures.1 in
    let stored = algorithm_stored c.in_ok-names.names.live c.in_ok-names.names.items.items c.in_ok-names.ensures.order c.args.rows.items (option_copied c.get.result) (option_copied c.text_in.result) c.get.ensures c.in_ok-names.ensures.names c.text_in.ensures in
    rw (p.1, p.2) (λ h. ap (λ o. option_or o (algorithm_unknown c.args.rows.items)) c.in_ok-names.ensures.tests ∙ (ap unknown_name (sym stored) ∙ c.in_err-algorithm_by.ensures.tests.0 h), c.in_err-algorithm_by.ensures.tests.1)

pub returns : goal.returns
returns c =
    let stored = algorithm_stored c.in_ok-names.names.live c.in_ok-names.names.items.items c.in_ok-names.ensures.order c.args.rows.items (option_copied c.get.result) (option_copied c.text_in.result) c.get.ensures c.in_ok-names.ensures.names c.text_in.ensures in
    ap (λ o. option_or o (algorithm_unknown c.args.rows.items)) c.in_ok-names.ensures.tests ∙ (ap unknown_name (sym stored) ∙ c.in_ok-algorithm_by.ensures.tests)
