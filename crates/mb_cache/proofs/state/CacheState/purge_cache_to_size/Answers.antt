use Rattle.mb_cache.proofs.RoundLemmas.{on_err, some_none}
use Rattle.mb_cache.proofs.Common.{SomeRounds}
use Rattle.mb_cache.proofs.state.CacheState.purge_cache_to_size.Goals as goal

pub returns-in_err-live-clause-err : goal.returns-in_err-live-clause-err
returns-in_err-live-clause-err g c t =
    let before = g.S.TileStore.told c.args.store.now in
    let after = g.S.TileStore.told c.live_size.new.self in
    on_err c.from_residual.result (SomeRounds c.args.max_bytes c.args.self.now before after) (some_none c.args.max_bytes c.args.self.now before after c.live_size.ensures.kept.told)
