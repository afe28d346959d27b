use Rattle.mb_lists.proofs.Dropped.{mark_step}
use Rattle.mb_lists.proofs.dropping.mark_all.Goals as goal

pub loop-index-preserved : goal.loop-index-preserved
loop-index-preserved c =
    let s = mark_step c.args.tiles.now c.args.contents.now c.loop-index.contents c.mark_unnamed.new.contents c.args.order.now c.loop-index.index-index _ c.loop-index-test.true c.loop-index.invariant.rest c.loop-index.invariant.like c.mark_unnamed.ensures in
    record { rest = s.0; like = s.1 }
