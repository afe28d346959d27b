use Rattle.tile_import.proofs.Common.{editable, Ok}
use Rattle.std.proofs.lemmas.Result.{err_from_is_err_and}
use Rattle.mb_load.proofs.BegunLemmas.{begun_err, begun_ok}
use Rattle.tile_import.proofs.StoringLemmas.{refused_as, taken_as}
use Rattle.tile_import.proofs.storing.load_base.Goals as goal

pub returns-in_err-set-clause-answer : goal.returns-in_err-set-clause-answer
returns-in_err-set-clause-answer g c =
    let p = err_from_is_err_and c.from_residual.result c.from_residual.ensures.1 in
    rw (p.1, p.2) (begun_err editable (g.S.TileStore.tells c.args.store.now) (g.S.TileStore.told c.args.store.now) _ c.in_err-set.ensures.answer c.in_err-set.ensures.own)

pub returns-in_err-test_editable-clause-answer : goal.returns-in_err-test_editable-clause-answer
returns-in_err-test_editable-clause-answer g c =
    let p = err_from_is_err_and c.from_residual-in_err-test_editable.result c.from_residual-in_err-test_editable.ensures.1 in
    rw (p.1, p.2) (begun_ok editable (g.S.TileStore.tells c.args.store.now) (g.S.TileStore.told c.args.store.now) c.in_ok-set.set _ c.in_ok-set.ensures.answer c.in_ok-set.ensures.own
    (λ free. refused_as c.in_ok-set.set.state c.mbt_type.result _ c.mbt_type.ensures (c.in_err-test_editable.ensures.tests.0 free)))

pub returns-clause-answer : goal.returns-clause-answer
returns-clause-answer g c =
    begun_ok editable (g.S.TileStore.tells c.args.store.now) (g.S.TileStore.told c.args.store.now) c.in_ok-set.set (Ok c.in_ok-set.set.state) c.in_ok-set.ensures.answer c.in_ok-set.ensures.own
    (taken_as c.in_ok-set.set.state c.mbt_type.result c.mbt_type.ensures c.in_ok-test_editable.ensures.tests)
