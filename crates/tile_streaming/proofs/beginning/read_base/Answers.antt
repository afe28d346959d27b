use Rattle.tile_bridge.proofs.StandsLemmas.{is_at}
use Rattle.tile_bridge.proofs.StoreLemmas.{load_refused}
use Rattle.tile_streaming.proofs.BegunLemmas.{marked_begun}
use Rattle.tile_streaming.proofs.beginning.read_base.Goals as goal

pub returns-in-Err-clause-refused : goal.returns-in-Err-clause-refused
returns-in-Err-clause-refused g c = load_refused 0 (g.S.TileStore.tells c.args.base.now) (g.S.TileStore.told c.args.base.now) c.in-Err.error c.of_store.result c.of_store.ensures c.in-Err.ensures.answer

pub returns-clause-begun : goal.returns-clause-begun
returns-clause-begun g c =
    let tells = g.S.TileStore.tells c.args.base.now in
    let told = g.S.TileStore.told c.args.base.now in
    marked_begun tells told c.in-Ok.set c.in_ok-marked_base.field-0 (λ u. g.met.S.TileStore.sound c.args.base.now u) c.in-Ok.ensures.answer c.in-Ok.ensures.own (λ s held root. c.in_ok-marked_base.ensures tells told s held root)

pub returns-in-Err-clause-placed : goal.returns-in-Err-clause-placed
returns-in-Err-clause-placed g c = is_at 0 c.in-Err.error c.of_store.result c.of_store.ensures
