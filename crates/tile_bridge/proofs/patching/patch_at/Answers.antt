use Rattle.tile_bridge.proofs.StandsLemmas.{is_at}
use Rattle.tile_bridge.proofs.StoreLemmas.{patch_due, patch_refused}
use Rattle.tile_bridge.proofs.patching.patch_at.Goals as goal

pub returns-clause-refused : goal.returns-clause-refused
returns-clause-refused g c = patch_refused c.args.force c.args.place c.args.set.state c.in_ok-patch.patch.state (g.P.TileStore.tells c.args.patch.now) (g.P.TileStore.told c.args.patch.now) c.in-Err.error c.of_store.result c.of_store.ensures c.in_ok-patch.ensures.state c.in-Err.ensures.refused

pub returns-in-Ok-clause-held : goal.returns-in-Ok-clause-held
returns-in-Ok-clause-held g c = record { state = c.in_ok-patch.patch.state; of = c.in_ok-patch.ensures.holds; made = c.in-Ok.ensures.answer; held = c.in-Ok.ensures.value.1 }

pub returns-in-Ok-clause-state : goal.returns-in-Ok-clause-state
returns-in-Ok-clause-state g c = patch_due c.args.force c.args.place c.args.set.state c.in_ok-patch.patch.state c.in-Ok.next.state (g.P.TileStore.tells c.args.patch.now) (g.P.TileStore.told c.args.patch.now) c.in_ok-patch.ensures.state c.in-Ok.ensures.answer

pub returns-clause-placed : goal.returns-clause-placed
returns-clause-placed g c = is_at c.args.place c.in-Err.error c.of_store.result c.of_store.ensures
