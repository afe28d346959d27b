use Rattle.tile_streaming.proofs.Common.{ap, Err}
use Rattle.tile_bridge.specs.Stores.{due_patch, Refuses}
use Rattle.tile_streaming.proofs.PatchLemmas.{load_refuses, step_refuses}
use Rattle.tile_streaming.proofs.RefusingLemmas.{base_ends, err_then, load_ends, next_of}
use Rattle.tile_streaming.specs.Patching.{BaseEnds, due_step, if_told, PatchEnds}
use Rattle.tile_streaming.proofs.patching.patch_at.Goals as goal

pub returns-in-Ok-clause-next : goal.returns-in-Ok-clause-next
returns-in-Ok-clause-next g c = λ s stands.
    next_of c.args.force (g.P.TileStore.tells c.args.patch.now) (g.P.TileStore.told c.args.patch.now) (g.S.TileStore.tells c.args.base.now) (g.S.TileStore.told c.args.base.now) s c.in-Ok.patch.state c.overlay.result c.in-Ok.ensures.holds c.in-Ok.ensures.whole c.in-Ok.ensures.named (c.overlay.ensures.may s stands) (c.overlay.ensures.stands s stands)

pub returns-in-Ok-clause-refused : goal.returns-in-Ok-clause-refused
returns-in-Ok-clause-refused g c = λ s stands.
    let tells = g.S.TileStore.tells c.args.base.now in
    let told = g.P.TileStore.told c.args.patch.now in
    let patch_tells = g.P.TileStore.tells c.args.patch.now in
    err_then (Refuses (if_told tells (due_step c.args.force c.args.place s c.in-Ok.patch.state))) (Refuses (if_told tells (due_patch c.args.force c.args.place s patch_tells told))) c.overlay.result
    (λ e h. step_refuses c.args.force c.args.place s c.in-Ok.patch.state tells patch_tells told e c.in-Ok.ensures.state h) (c.overlay.ensures.refused s stands)

pub returns-in-Ok-clause-ends : goal.returns-in-Ok-clause-ends
returns-in-Ok-clause-ends g c =
    let before = g.S.TileStore.faults c.args.base.now in
    let now = g.S.TileStore.faults c.overlay.new.base in
    let first = g.P.TileStore.faults c.args.patch.now in
    let last = g.P.TileStore.faults c.load_at.new.store in
    err_then (BaseEnds c.args.place before now) (PatchEnds c.args.place before now first last) c.overlay.result (λ e h. base_ends c.args.place before now first last e c.in-Ok.ensures.still h) c.overlay.ensures.ends

pub returns-in-Err-clause-refused : goal.returns-in-Err-clause-refused
returns-in-Err-clause-refused g c = λ s stands.
    load_refuses c.args.force c.args.place s (g.S.TileStore.tells c.args.base.now) (g.P.TileStore.tells c.args.patch.now) (g.P.TileStore.told c.args.patch.now) c.in-Err.error c.in-Err.ensures.refused

pub returns-in-Err-clause-ends : goal.returns-in-Err-clause-ends
returns-in-Err-clause-ends g c =
    load_ends c.args.place (g.S.TileStore.faults c.args.base.now) (g.P.TileStore.faults c.args.patch.now) (g.P.TileStore.faults c.load_at.new.store) c.in-Err.error c.in-Err.ensures.placed (λ p is. c.in-Err.ensures.fault p (ap Err is))
