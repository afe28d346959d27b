use Rattle.mb_access.proofs.Common.{ap, begun_err, begun_ok, contains_answer, err_from_is_err_and, Ok, sym}
use Rattle.mb_access.proofs.mbtiles.Mbtiles.contains.Goals as goal

pub returns-in_err-set-clause-answer : goal.returns-in_err-set-clause-answer
returns-in_err-set-clause-answer g c =
    let p = err_from_is_err_and c.from_residual.result c.from_residual.ensures.1 in
    rw (p.1, p.2) (begun_err (contains_answer c.args.z c.args.x c.args.y) (g.S.TileStore.tells c.args.store.now) (g.S.TileStore.told c.args.store.now) _ c.in_err-set.ensures.answer c.in_err-set.ensures.own)

pub returns-clause-answer : goal.returns-clause-answer
returns-clause-answer g c = begun_ok (contains_answer c.args.z c.args.x c.args.y) (g.S.TileStore.tells c.args.store.now) (g.S.TileStore.told c.args.store.now) c.in_ok-set.set (Ok c.has_tile.result) c.in_ok-set.ensures.answer c.in_ok-set.ensures.own (ap Ok (sym c.has_tile.ensures))
