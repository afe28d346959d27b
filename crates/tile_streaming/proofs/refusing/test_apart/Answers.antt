use Rattle.tile_streaming.proofs.Common.{ap, Err, None}
use Rattle.mb_edit.specs.PatchingOrder.{bytes_put}
use Rattle.tile_streaming.proofs.RefusingLemmas.{ends_base, names_base}
use Rattle.tile_streaming.proofs.refusing.test_apart.Goals as goal

pub returns-in-Err-clause-refused : goal.returns-in-Err-clause-refused
returns-in-Err-clause-refused g c =
    names_base c.args.place (g.S.TileStore.tells c.args.base.now) (g.S.TileStore.told c.args.base.now) c.args.rest.now c.args.algorithm None (bytes_put c.args.patch.now.state.tiles) c.in-Err.error c.of_base.result c.of_base.ensures

pub returns-in-Err-clause-ends : goal.returns-in-Err-clause-ends
returns-in-Err-clause-ends g c =
    ends_base c.args.place (g.S.TileStore.faults c.args.base.now) (g.S.TileStore.faults c.collided.new.base) c.in-Err.error c.of_base.result c.of_base.ensures (λ is. c.in-Err.ensures.fault.rose (ap Err is))
