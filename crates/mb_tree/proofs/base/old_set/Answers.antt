use Rattle.mb_tree.proofs.Common.{ap, err_from_is_err_and, Flat, MismatchedTargetType, refl, sym, ◌∙◌}
use Rattle.mb_tree.proofs.BaseLemmas.{loads_flat, loads_other, loads_refused}
use Rattle.mb_tree.proofs.RefusalLemmas.{not_tree}
use Rattle.mb_tree.proofs.base.old_set.Goals as goal

pub returns-in_err-set-clause-answer : goal.returns-in_err-set-clause-answer
returns-in_err-set-clause-answer g c =
    let p = err_from_is_err_and c.from_residual.result c.from_residual.ensures.1 in
    rw (p.1, p.2) (loads_refused (g.S.TileStore.tells c.args.store.now) (g.S.TileStore.told c.args.store.now) _ c.in_err-set.ensures.answer c.in_err-set.ensures.own)

pub returns-clause-answer : goal.returns-clause-answer
returns-clause-answer g c = loads_flat (g.S.TileStore.tells c.args.store.now) (g.S.TileStore.told c.args.store.now) c.in_ok-set.set _ c.in_ok-set.ensures.answer c.in_ok-set.ensures.own (sym c.mbt_type.ensures ∙ c.in_ok-test_flat.ensures.flat) refl

pub returns-in_err-set-clause-untouched : goal.returns-in_err-set-clause-untouched
returns-in_err-set-clause-untouched g c =
    let p = err_from_is_err_and c.from_residual.result c.from_residual.ensures.1 in
    rw (p.1, p.2) (not_tree _ c.in_err-set.ensures.own)

pub returns-in_err-test_flat-clause-answer : goal.returns-in_err-test_flat-clause-answer
returns-in_err-test_flat-clause-answer g c =
    let p = err_from_is_err_and c.from_residual-in_err-test_flat.result c.from_residual-in_err-test_flat.ensures.1 in
    rw (p.1, p.2) (loads_other (g.S.TileStore.tells c.args.store.now) (g.S.TileStore.told c.args.store.now) c.in_ok-set.set _ c.in_ok-set.ensures.answer c.in_ok-set.ensures.own
    (λ flat. c.in_err-test_flat.ensures.other.0 (c.mbt_type.ensures ∙ flat))
    (c.in_err-test_flat.ensures.other.1 ∙ ap (λ l. MismatchedTargetType l Flat) c.mbt_type.ensures))
