use Rattle.mb_check.proofs.Common.{begun_err, begun_ok, err_from_is_err_and, Ok, refl, rows_answer}
use Rattle.mb_check.proofs.rows.check_tiles_type_validity.Goals as goal

pub returns-in_err-_set-clause-answer : goal.returns-in_err-_set-clause-answer
returns-in_err-_set-clause-answer g c =
    let p = err_from_is_err_and c.from_residual.result c.from_residual.ensures.1 in
    rw (p.1, p.2) (begun_err rows_answer (g.S.TileStore.tells c.args.store.now) (g.S.TileStore.told c.args.store.now) _ c.in_err-_set.ensures.answer c.in_err-_set.ensures.own)

pub returns-clause-answer : goal.returns-clause-answer
returns-clause-answer g c = begun_ok rows_answer (g.S.TileStore.tells c.args.store.now) (g.S.TileStore.told c.args.store.now) c.in_ok-_set._set (Ok tt) c.in_ok-_set.ensures.answer c.in_ok-_set.ensures.own refl
