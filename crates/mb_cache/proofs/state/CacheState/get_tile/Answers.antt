use Rattle.mb_cache.proofs.Common.{bytes_of, err_from_is_err_and, sym, ◌∙◌}
use Rattle.mb_cache.proofs.ReadLemmas.{read_free}
use Rattle.mb_cache.proofs.state.CacheState.get_tile.Goals as goal

pub returns-in_err-row-clause-answer : goal.returns-in_err-row-clause-answer
returns-in_err-row-clause-answer g c =
    let p = err_from_is_err_and c.from_residual.result c.from_residual.ensures.1 in
    rw (p.1, p.2) (read_free bytes_of c.args.z c.args.x c.args.y (g.S.TileStore.tells c.args.store.now) (g.S.TileStore.told c.args.store.now) c.in-Some.coord _ (sym c.coord_in.ensures ∙ c.in-Some.is) c.in_err-row.ensures.free)
