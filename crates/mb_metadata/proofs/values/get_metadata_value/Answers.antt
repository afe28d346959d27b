use Rattle.mb_metadata.proofs.Common.{begun_err, begun_ok, err_from_is_err_and, unasked, value_answer}
use Rattle.mb_metadata.proofs.values.get_metadata_value.Goals as goal

pub returns-in_err-set-clause-answer : goal.returns-in_err-set-clause-answer
returns-in_err-set-clause-answer g c =
    let p = err_from_is_err_and c.from_residual.result c.from_residual.ensures.1 in
    rw (p.1, p.2) (begun_err (value_answer c.args.key.now) (g.S.TileStore.tells c.args.store.now) (g.S.TileStore.told c.args.store.now) _ c.in_err-set.ensures.answer c.in_err-set.ensures.own)

pub returns-clause-answer : goal.returns-clause-answer
returns-clause-answer g c = begun_ok (value_answer c.args.key.now) (g.S.TileStore.tells c.args.store.now) (g.S.TileStore.told c.args.store.now) c.in_ok-set.set c.value_in.result c.in_ok-set.ensures.answer c.in_ok-set.ensures.own c.value_in.ensures.answer

pub returns-clause-fault : goal.returns-clause-fault
returns-clause-fault g c = unasked _ _ c.args.store.now _ _ _ c.in_ok-set.ensures.fault.still c.value_in.ensures.fault
