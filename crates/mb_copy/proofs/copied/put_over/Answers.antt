use Rattle.mb_copy.proofs.Common.{ap, err_from_is_err_and, Held, held_completed, sym, ◌∙◌}
use Rattle.mb_copy.proofs.CopiedLemmas.{ids_alone, put_in_as}
use Rattle.mb_copy.proofs.copied.put_over.Goals as goal

pub completed-requires : goal.completed-requires
completed-requires c = put_in_as c.args.base c.in_ok-set.set c.args.put.now.state.tiles c.in_ok-set.ensures.value.1

pub returns-in_err-set-clause-tests : goal.returns-in_err-set-clause-tests
returns-in_err-set-clause-tests c =
    let p = err_from_is_err_and c.from_residual.result c.from_residual.ensures.1 in
    rw (p.1, p.2) (λ free. sym (ids_alone c.args.base.state c.args.put.now.state.tiles c.requires) ∙ c.in_err-set.ensures.refused free, c.in_err-set.ensures.unfaulted)

pub returns-clause-tests : goal.returns-clause-tests
returns-clause-tests c = sym (ids_alone c.args.base.state c.args.put.now.state.tiles c.requires) ∙ c.in_ok-set.ensures.value.0

pub returns-clause-value : goal.returns-clause-value
returns-clause-value c = c.in_ok-completed.ensures ∙ ap (λ (h : Held). held_completed c.args.copier.now c.args.made h c.args.put.now.state.tiles c.args.put.now.state.dates c.args.put.now.state.metadata) c.in_ok-set.ensures.value.1
