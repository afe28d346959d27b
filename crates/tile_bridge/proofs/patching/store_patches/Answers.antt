use Rattle.tile_bridge.proofs.StandsLemmas.{is_at}
use Rattle.tile_bridge.proofs.patching.store_patches.Goals as goal

pub returns-in-Err-clause-placed : goal.returns-in-Err-clause-placed
returns-in-Err-clause-placed g c = is_at 0 c.in-Err.error c.of_store.result c.of_store.ensures
