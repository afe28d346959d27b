use Rattle.tile_streaming.proofs.OverlayingLemmas.{put_may, put_refused, put_stands}
use Rattle.tile_streaming.proofs.RefusingLemmas.{another_refuses}
use Rattle.tile_streaming.proofs.patching.overlay.Goals as goal

pub returns-in-Ok-clause-may : goal.returns-in-Ok-clause-may
returns-in-Ok-clause-may g c = λ s stands.
    put_may (g.S.TileStore.tells c.args.base.now) (g.S.TileStore.told c.args.base.now) c.args.set s stands c.args.force c.args.patch.now.state c.in-Ok.over c.in-Ok.ensures.value.0 c.in-Ok.ensures.value.1 c.put_over.result c.put_over.ensures.apart

pub returns-in-Ok-clause-stands : goal.returns-in-Ok-clause-stands
returns-in-Ok-clause-stands g c = λ s stands.
    put_stands (g.S.TileStore.tells c.args.base.now) (g.S.TileStore.told c.args.base.now) c.args.set s stands c.args.force c.args.patch.now.state c.in-Ok.over c.in-Ok.ensures.value.0 c.in-Ok.ensures.value.1 c.requires.on_board c.put_over.result c.put_over.ensures.set c.put_over.ensures.apart

pub returns-in-Ok-clause-refused : goal.returns-in-Ok-clause-refused
returns-in-Ok-clause-refused g c = λ s stands.
    put_refused (g.S.TileStore.tells c.args.base.now) (g.S.TileStore.told c.args.base.now) c.args.set s stands c.args.force c.args.patch.now.state c.in-Ok.over c.in-Ok.ensures.value.0 c.in-Ok.ensures.value.1 c.args.place c.put_over.result c.put_over.ensures.refused

pub returns-in-Err-clause-refused : goal.returns-in-Err-clause-refused
returns-in-Err-clause-refused g c = λ s stands.
    another_refuses (g.S.TileStore.tells c.args.base.now) (g.S.TileStore.told c.args.base.now) c.args.set s stands c.args.force c.args.place c.args.patch.now.state c.algorithm-algorithm.result c.algorithm-algorithm.ensures c.in-Err.error c.refuse.result c.in-Err.ensures.refused c.refuse.ensures.refused
