use Rattle.tile_streaming.proofs.StepLemmas.{same_error}
use Rattle.tile_streaming.specs.Stands.{BaseStands}
use Rattle.tile_streaming.proofs.verifying.hash_for.Goals as goal

pub returns-in_err-verified_hash-clause-still : goal.returns-in_err-verified_hash-clause-still
returns-in_err-verified_hash-clause-still g c = same_error c.in_err-verified_hash.field-0.0 _ (BaseStands (g.S.TileStore.faults c.args.store.now) (g.S.TileStore.faults c.verified_hash.new.store)) c.in_err-verified_hash.ensures.still c.from_residual.ensures.1

pub returns-in_err-hash_marked-clause-still : goal.returns-in_err-hash_marked-clause-still
returns-in_err-hash_marked-clause-still g c = same_error c.in_err-hash_marked.field-0.0 _ (BaseStands (g.S.TileStore.faults c.args.store.now) (g.S.TileStore.faults c.hash_marked.new.store)) c.in_err-hash_marked.ensures.still c.from_residual-in_err-hash_marked.ensures.1
