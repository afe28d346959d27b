use Rattle.tile_streaming.proofs.Common.{arith, Bool, fresh, refl, subst, ◌+◌, ◌∙◌, ◌∷◌}
use Rattle.tile_bridge.proofs.FoldLemmas.{as_long, due_all, folded_none, read_after}
use Rattle.tile_bridge.specs.Stores.{due_patch, Refuses}
use Rattle.tile_streaming.proofs.PatchLemmas.{has_next, next_again, next_fault, next_refuses, next_stands, stands_again}
use Rattle.tile_streaming.proofs.TakenLemmas.{only_read, read_then}
use Rattle.tile_streaming.specs.Patching.{if_told}
use Rattle.tile_streaming.proofs.patching.patch_all.Goals as goal

pub loop-index-init : goal.loop-index-init
loop-index-init g c = record {
  layout = refl;
  kept = only_read g.S.TileStore.told g.S.TileStore.tells g.S.TileStore.faults g.S.TileStore.steady c.args.base.now;
  still = refl;
  folded = λ s stands. record { held = fresh s; folded = folded_none g.P.TileStore.tells g.P.TileStore.told g.P.TileStore.faults g.P.TileStore.steady c.args.force (fresh s) c.args.patches.now.items; stands = stands };
}

pub loop-index-preserved : goal.loop-index-preserved
loop-index-preserved g c =
    let i = c.loop-index.invariant in
    record {
      layout = c.in_ok-next.ensures.layout ∙ i.layout;
      kept = read_then g.S.TileStore.told g.S.TileStore.tells g.S.TileStore.faults g.S.TileStore.steady c.args.base.now c.loop-index.base c.patch_at.new.base i.kept c.in_ok-next.ensures.base_kept;
      still = c.in_ok-next.ensures.base_still ∙ i.still;
      folded = λ s stands.
          let so = i.folded s stands in
          has_next g.P.TileStore.tells g.P.TileStore.told g.P.TileStore.faults g.P.TileStore.steady c.args.force (g.S.TileStore.tells c.args.base.now) (g.S.TileStore.told c.args.base.now) s c.args.patches.now.items c.loop-index.patches.items c.loop-index.index c.loop-index.now so
          c.index_mut.result.now c.patch_at.new.patch (omega (arith, c.loop-index-test.true, c.len-index-end.ensures, as_long g.P.TileStore.told c.args.patches.now.items c.loop-index.patches.items so.folded.read.told)) c.index_mut.ensures.value c.patch_at.ensures.kept
          c.in_ok-next.next
          (next_again c.args.force (g.P.TileStore.tells c.index_mut.result.now) (g.P.TileStore.told c.index_mut.result.now) (g.S.TileStore.tells c.args.base.now) (g.S.TileStore.tells c.loop-index.base) (g.S.TileStore.told c.args.base.now) (g.S.TileStore.told c.loop-index.base) so.held.state c.in_ok-next.next i.kept.tells i.kept.told
          (c.in_ok-next.ensures.next so.held.state (stands_again (g.S.TileStore.tells c.args.base.now) (g.S.TileStore.tells c.loop-index.base) (g.S.TileStore.told c.args.base.now) (g.S.TileStore.told c.loop-index.base) c.loop-index.now so.held.state i.kept.tells i.kept.told so.stands))) c.in_ok-next.ensures.still;
    }

pub returns-in_err-next-clause-refused : goal.returns-in_err-next-clause-refused
returns-in_err-next-clause-refused g c = λ s stands.
    let i = c.loop-index.invariant in
    let so = i.folded s stands in
    next_refuses g.P.TileStore.tells g.P.TileStore.told g.P.TileStore.faults g.P.TileStore.steady c.args.force (fresh s) c.args.patches.now.items c.loop-index.patches.items c.loop-index.index so.held so.folded c.index_mut.result.now c.patch_at.new.patch (omega (arith, c.loop-index-test.true, c.len-index-end.ensures, as_long g.P.TileStore.told c.args.patches.now.items c.loop-index.patches.items so.folded.read.told)) c.index_mut.ensures.value c.patch_at.ensures.kept (g.S.TileStore.faults c.args.base.now) (g.S.TileStore.faults c.loop-index.base) (g.S.TileStore.faults c.patch_at.new.base) i.still
    (g.S.TileStore.tells c.args.base.now) c.in_err-next.field-0.0 c.from_residual.result
    (subst (λ (b : Bool). Refuses (if_told b (due_patch c.args.force (c.loop-index.index + 1) so.held.state (g.P.TileStore.tells c.index_mut.result.now) (g.P.TileStore.told c.index_mut.result.now))) c.in_err-next.field-0.0) i.kept.tells (c.in_err-next.ensures.refused so.held.state (stands_again (g.S.TileStore.tells c.args.base.now) (g.S.TileStore.tells c.loop-index.base) (g.S.TileStore.told c.args.base.now) (g.S.TileStore.told c.loop-index.base) c.loop-index.now so.held.state i.kept.tells i.kept.told so.stands))) c.from_residual.ensures.1

pub returns-in_err-next-clause-read : goal.returns-in_err-next-clause-read
returns-in_err-next-clause-read g c =
    let s = c.requires.0 in
    let so = c.loop-index.invariant.folded s c.requires.1 in
    read_after g.P.TileStore.tells g.P.TileStore.told g.P.TileStore.faults g.P.TileStore.steady c.args.force (fresh s) c.args.patches.now.items c.loop-index.patches.items c.loop-index.index so.held so.folded
    c.index_mut.result.now c.patch_at.new.patch (omega (arith, c.loop-index-test.true, c.len-index-end.ensures, as_long g.P.TileStore.told c.args.patches.now.items c.loop-index.patches.items so.folded.read.told)) c.index_mut.ensures.value c.patch_at.ensures.kept

pub returns-in_err-next-clause-fault : goal.returns-in_err-next-clause-fault
returns-in_err-next-clause-fault g c =
    let s = c.requires.0 in
    let i = c.loop-index.invariant in
    let so = i.folded s c.requires.1 in
    next_fault g.P.TileStore.tells g.P.TileStore.told g.P.TileStore.faults g.P.TileStore.steady c.args.force (fresh s) c.args.patches.now.items c.loop-index.patches.items c.loop-index.index so.held so.folded c.index_mut.result.now c.patch_at.new.patch (omega (arith, c.loop-index-test.true, c.len-index-end.ensures, as_long g.P.TileStore.told c.args.patches.now.items c.loop-index.patches.items so.folded.read.told)) c.index_mut.ensures.value c.patch_at.ensures.kept (g.S.TileStore.faults c.args.base.now) (g.S.TileStore.faults c.loop-index.base) (g.S.TileStore.faults c.patch_at.new.base) i.still
    c.in_err-next.field-0.0 c.from_residual.result c.in_err-next.ensures.ends c.from_residual.ensures.1

pub returns-in_err-next-clause-still : goal.returns-in_err-next-clause-still
returns-in_err-next-clause-still g c =
    let s = c.requires.0 in
    let i = c.loop-index.invariant in
    let so = i.folded s c.requires.1 in
    next_stands g.P.TileStore.tells g.P.TileStore.told g.P.TileStore.faults g.P.TileStore.steady c.args.force (fresh s) c.args.patches.now.items c.loop-index.patches.items c.loop-index.index so.held so.folded c.index_mut.result.now c.patch_at.new.patch (omega (arith, c.loop-index-test.true, c.len-index-end.ensures, as_long g.P.TileStore.told c.args.patches.now.items c.loop-index.patches.items so.folded.read.told)) c.index_mut.ensures.value c.patch_at.ensures.kept (g.S.TileStore.faults c.args.base.now) (g.S.TileStore.faults c.loop-index.base) (g.S.TileStore.faults c.patch_at.new.base) i.still
    c.in_err-next.field-0.0 c.from_residual.result c.in_err-next.ensures.ends c.from_residual.ensures.1

pub returns-in_err-next-clause-kept : goal.returns-in_err-next-clause-kept
returns-in_err-next-clause-kept g c =
    read_then g.S.TileStore.told g.S.TileStore.tells g.S.TileStore.faults g.S.TileStore.steady c.args.base.now c.loop-index.base c.patch_at.new.base c.loop-index.invariant.kept c.patch_at.ensures.base_kept

pub returns-clause-after : goal.returns-clause-after
returns-clause-after g c = λ s stands.
    let so = c.loop-index.invariant.folded s stands in
    record { state = so.held.state; is_due = due_all g.P.TileStore.tells g.P.TileStore.told g.P.TileStore.faults g.P.TileStore.steady c.args.force (fresh s) c.args.patches.now.items c.loop-index.patches.items c.loop-index.index so.held so.folded (omega (arith, c.loop-index-test.false, c.len-index-end.ensures, as_long g.P.TileStore.told c.args.patches.now.items c.loop-index.patches.items so.folded.read.told)); stands = so.stands }

pub returns-clause-read : goal.returns-clause-read
returns-clause-read g c = (c.loop-index.invariant.folded c.requires.0 c.requires.1).folded.read

pub returns-clause-still : goal.returns-clause-still
returns-clause-still g c =
    let i = c.loop-index.invariant in
    let so = i.folded c.requires.0 c.requires.1 in
    (λ k. i.still k ∷ so.folded.still k)

pub index_mut-requires : goal.index_mut-requires
index_mut-requires g c =
    let so = c.loop-index.invariant.folded c.requires.0 c.requires.1 in
    omega (arith, c.loop-index-test.true, c.len-index-end.ensures, as_long g.P.TileStore.told c.args.patches.now.items c.loop-index.patches.items so.folded.read.told, c.loop-index.patches.ok.0, c.args.patches.now.ok.0)
