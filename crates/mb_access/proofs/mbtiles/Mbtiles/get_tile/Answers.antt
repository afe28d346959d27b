use Rattle.mb_access.proofs.Common.{begun_err, begun_ok, err_from_is_err_and, StoreFault, tile_answer}
use Rattle.mb_store.proofs.FaultLemmas.{unasked}
use Rattle.mb_access.proofs.mbtiles.Mbtiles.get_tile.Goals as goal

pub returns-in_err-set-clause-answer : goal.returns-in_err-set-clause-answer
returns-in_err-set-clause-answer g c =
    let p = err_from_is_err_and c.from_residual.result c.from_residual.ensures.1 in
    rw (p.1, p.2) (begun_err (tile_answer c.args.z c.args.x c.args.y) (g.S.TileStore.tells c.args.store.now) (g.S.TileStore.told c.args.store.now) _ c.in_err-set.ensures.answer c.in_err-set.ensures.own)

pub returns-clause-answer : goal.returns-clause-answer
returns-clause-answer g c = begun_ok (tile_answer c.args.z c.args.x c.args.y) (g.S.TileStore.tells c.args.store.now) (g.S.TileStore.told c.args.store.now) c.in_ok-set.set c.bytes_in.result c.in_ok-set.ensures.answer c.in_ok-set.ensures.own c.bytes_in.ensures.answer

pub returns-clause-fault : goal.returns-clause-fault
returns-clause-fault g c = unasked g.S.TileStore.faults c.args.store.now c.args.store.now c.load.new.store c.bytes_in.result StoreFault c.in_ok-set.ensures.fault.still c.bytes_in.ensures.fault
