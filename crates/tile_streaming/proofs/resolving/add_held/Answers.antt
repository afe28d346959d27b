use Rattle.tile_streaming.proofs.Common.{ap, append-nil, arith, entries, len-entries, map, mark_of, None, sym, take_all, ◌++◌, ◌∙◌}
use Rattle.tile_streaming.proofs.ResolveLemmas.{held_more}
use Rattle.tile_streaming.proofs.resolving.add_held.Goals as goal

pub loop-index-init : goal.loop-index-init
loop-index-init c = c.in_ok-reserve.ensures.items ∙ sym (append-nil c.args.marks.now.items)

pub loop-index-preserved : goal.loop-index-preserved
loop-index-preserved c =
    let es = entries c.args.over.now.state.tiles in
    c.in_ok-push.ensures.items
    ∙ held_more mark_of c.args.marks.now.items es c.loop-index.index (record { zoom = 0; column = 0; row = 0 }, None) c.loop-index.marks.items c.held_mark.result (omega (arith, c.loop-index-test.true, c.tile_count-index-end.ensures, len-entries c.args.over.now.state.tiles)) c.held_mark.ensures c.loop-index.invariant

pub returns : goal.returns
returns c =
    let es = entries c.args.over.now.state.tiles in
    c.loop-index.invariant ∙ ap (λ l. c.args.marks.now.items ++ map mark_of l) (take_all c.loop-index.index es (omega (arith, c.loop-index-test.false, c.tile_count-index-end.ensures, len-entries c.args.over.now.state.tiles)))
