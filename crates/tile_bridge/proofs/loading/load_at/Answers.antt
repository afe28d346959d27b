use Rattle.tile_bridge.proofs.StandsLemmas.{is_at}
use Rattle.tile_bridge.proofs.StoreLemmas.{holds_state, load_refused}
use Rattle.tile_bridge.proofs.loading.load_at.Goals as goal

pub returns-in-Err-clause-refused : goal.returns-in-Err-clause-refused
returns-in-Err-clause-refused g c = load_refused c.args.place (g.S.TileStore.tells c.args.store.now) (g.S.TileStore.told c.args.store.now) c.in-Err.error c.of_store.result c.of_store.ensures c.in-Err.ensures.answer

pub returns-in-Ok-clause-holds : goal.returns-in-Ok-clause-holds
returns-in-Ok-clause-holds g c = holds_state (g.S.TileStore.tells c.args.store.now) (g.S.TileStore.told c.args.store.now) c.in-Ok.set.state (λ tells. (c.in-Ok.ensures.answer tells).0) (c.in-Ok.ensures.own.0, c.in-Ok.ensures.own.1.0)

pub returns-in-Err-clause-placed : goal.returns-in-Err-clause-placed
returns-in-Err-clause-placed g c = is_at c.args.place c.in-Err.error c.of_store.result c.of_store.ensures
