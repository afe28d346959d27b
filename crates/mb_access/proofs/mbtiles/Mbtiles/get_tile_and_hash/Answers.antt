use Rattle.mb_access.proofs.Common.{coord_in, err_from_is_err_and, StoreFault, ◌∙◌}
use Rattle.mb_store.proofs.FaultLemmas.{unasked}
use Rattle.mb_access.proofs.HashedLemmas.{hashed_err, hashed_free, hashed_ok, row_by_same}
use Rattle.mb_access.proofs.mbtiles.Mbtiles.get_tile_and_hash.Goals as goal

pub returns-in_err-set-clause-answer : goal.returns-in_err-set-clause-answer
returns-in_err-set-clause-answer g c =
    let p = err_from_is_err_and c.from_residual.result c.from_residual.ensures.1 in
    rw (p.1, p.2) (hashed_err c.args.z c.args.x c.args.y (g.S.TileStore.tells c.args.store.now) (g.S.TileStore.told c.args.store.now) _ c.in_err-set.ensures.answer c.in_err-set.ensures.own)

pub returns-in_err-row-clause-answer : goal.returns-in_err-row-clause-answer
returns-in_err-row-clause-answer g c =
    let p = err_from_is_err_and c.from_residual-in_err-row.result c.from_residual-in_err-row.ensures.1 in
    rw (p.1, p.2) (hashed_free c.args.z c.args.x c.args.y (g.S.TileStore.tells c.args.store.now) (g.S.TileStore.told c.args.store.now) c.in_ok-set.set _ c.in_err-row.ensures.free c.in_ok-set.ensures.answer c.in_ok-set.ensures.own)

pub returns-clause-answer : goal.returns-clause-answer
returns-clause-answer g c =
    let kept = c.in_ok-set.ensures.kept in
    hashed_ok c.args.z c.args.x c.args.y (g.S.TileStore.tells c.args.store.now) (g.S.TileStore.told c.args.store.now) c.in_ok-set.set c.in_ok-row.row c.hashed.result c.in_ok-set.ensures.answer c.in_ok-set.ensures.own
    (λ t. row_by_same c.in_ok-row.row c.mbt_type.result c.in_ok-set.set.state.layout (g.S.TileStore.told c.load.new.store) (g.S.TileStore.told c.args.store.now) c.coord_in.result (coord_in c.args.z c.args.x c.args.y) (c.in_ok-row.ensures.answer (kept.tells ∙ t)) c.mbt_type.ensures kept.told c.coord_in.ensures)
    c.hashed.ensures.answer

pub returns-clause-fault : goal.returns-clause-fault
returns-clause-fault g c =
    unasked g.S.TileStore.faults c.args.store.now c.args.store.now c.row_by.new.store c.hashed.result StoreFault (c.in_ok-row.ensures.fault.still ∙ c.in_ok-set.ensures.fault.still) c.hashed.ensures.fault
