use Rattle.tile_bridge.proofs.Common.{ap, arith, Err, ◌∷◌}
use Rattle.tile_bridge.proofs.FoldLemmas.{as_long, due_all, fault_after, folded_more, folded_none, read_after, refused_after, some_all, stands_after}
use Rattle.tile_bridge.proofs.patching.patch_all.Goals as goal

pub returns-in_err-next-clause-refused : goal.returns-in_err-next-clause-refused
returns-in_err-next-clause-refused g c =
    refused_after g.P.TileStore.tells g.P.TileStore.told g.P.TileStore.faults g.P.TileStore.steady c.args.force c.args.base c.args.patches.now.items c.loop-index.patches.items c.loop-index.index c.loop-index.set c.loop-index.invariant
    c.index_mut.result.now c.patch_at.new.patch (omega (arith, c.loop-index-test.true, c.len-index-end.ensures, as_long g.P.TileStore.told c.args.patches.now.items c.loop-index.patches.items c.loop-index.invariant.read.told)) c.index_mut.ensures.value c.patch_at.ensures.kept
    c.in_err-next.field-0.0 c.from_residual.result c.in_err-next.ensures.refused c.from_residual.ensures.1

pub returns-in_err-next-clause-read : goal.returns-in_err-next-clause-read
returns-in_err-next-clause-read g c =
    read_after g.P.TileStore.tells g.P.TileStore.told g.P.TileStore.faults g.P.TileStore.steady c.args.force c.args.base c.args.patches.now.items c.loop-index.patches.items c.loop-index.index c.loop-index.set c.loop-index.invariant
    c.index_mut.result.now c.patch_at.new.patch (omega (arith, c.loop-index-test.true, c.len-index-end.ensures, as_long g.P.TileStore.told c.args.patches.now.items c.loop-index.patches.items c.loop-index.invariant.read.told)) c.index_mut.ensures.value c.patch_at.ensures.kept

pub returns-in_err-next-clause-fault : goal.returns-in_err-next-clause-fault
returns-in_err-next-clause-fault g c =
    fault_after g.P.TileStore.tells g.P.TileStore.told g.P.TileStore.faults g.P.TileStore.steady c.args.force c.args.base c.args.patches.now.items c.loop-index.patches.items c.loop-index.index c.loop-index.set c.loop-index.invariant
    c.index_mut.result.now c.patch_at.new.patch (omega (arith, c.loop-index-test.true, c.len-index-end.ensures, as_long g.P.TileStore.told c.args.patches.now.items c.loop-index.patches.items c.loop-index.invariant.read.told)) c.index_mut.ensures.value c.patch_at.ensures.kept
    c.in_err-next.field-0.0 c.from_residual.result (λ p is. c.in_err-next.ensures.fault p (ap Err is)) c.from_residual.ensures.1

pub returns-in_err-next-clause-still : goal.returns-in_err-next-clause-still
returns-in_err-next-clause-still g c =
    stands_after g.P.TileStore.tells g.P.TileStore.told g.P.TileStore.faults g.P.TileStore.steady c.args.force c.args.base c.args.patches.now.items c.loop-index.patches.items c.loop-index.index c.loop-index.set c.loop-index.invariant
    c.index_mut.result.now c.patch_at.new.patch (omega (arith, c.loop-index-test.true, c.len-index-end.ensures, as_long g.P.TileStore.told c.args.patches.now.items c.loop-index.patches.items c.loop-index.invariant.read.told)) c.index_mut.ensures.value c.patch_at.ensures.kept
    c.in_err-next.field-0.0 c.from_residual.result c.in_err-next.ensures.placed c.from_residual.ensures.1

pub loop-index-init : goal.loop-index-init
loop-index-init g c = folded_none g.P.TileStore.tells g.P.TileStore.told g.P.TileStore.faults g.P.TileStore.steady c.args.force c.args.base c.args.patches.now.items

pub loop-index-preserved : goal.loop-index-preserved
loop-index-preserved g c =
    folded_more g.P.TileStore.tells g.P.TileStore.told g.P.TileStore.faults g.P.TileStore.steady c.args.force c.args.base c.args.patches.now.items c.loop-index.patches.items c.loop-index.index c.loop-index.set c.loop-index.invariant
    c.index_mut.result.now c.patch_at.new.patch (omega (arith, c.loop-index-test.true, c.len-index-end.ensures, as_long g.P.TileStore.told c.args.patches.now.items c.loop-index.patches.items c.loop-index.invariant.read.told)) c.index_mut.ensures.value c.patch_at.ensures.kept
    c.in_ok-next.next c.in_ok-next.ensures.state c.in_ok-next.ensures.held c.in_ok-next.ensures.loaded c.in_ok-next.ensures.still

pub returns-clause-state : goal.returns-clause-state
returns-clause-state g c = due_all g.P.TileStore.tells g.P.TileStore.told g.P.TileStore.faults g.P.TileStore.steady c.args.force c.args.base c.args.patches.now.items c.loop-index.patches.items c.loop-index.index c.loop-index.set c.loop-index.invariant (omega (arith, c.loop-index-test.false, c.len-index-end.ensures, as_long g.P.TileStore.told c.args.patches.now.items c.loop-index.patches.items c.loop-index.invariant.read.told))

pub returns-clause-still : goal.returns-clause-still
returns-clause-still g c = λ base. ap (λ counts. base ∷ counts) c.loop-index.invariant.still

pub returns-clause-held : goal.returns-clause-held
returns-clause-held g c = some_all g.P.TileStore.tells g.P.TileStore.told g.P.TileStore.faults g.P.TileStore.steady c.args.force c.args.base c.args.patches.now.items c.loop-index.patches.items c.loop-index.index c.loop-index.set c.loop-index.invariant (omega (arith, c.loop-index-test.false, c.len-index-end.ensures, as_long g.P.TileStore.told c.args.patches.now.items c.loop-index.patches.items c.loop-index.invariant.read.told))
