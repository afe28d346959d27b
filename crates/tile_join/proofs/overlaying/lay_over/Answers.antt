use Rattle.tile_join.proofs.Common.{arith, ◌+◌}
use Rattle.tile_join.proofs.OverLemmas.{laid_more}
use Rattle.tile_join.proofs.overlaying.lay_over.Goals as goal

pub loop-entry-preserved : goal.loop-entry-preserved
loop-entry-preserved c =
    laid_more c.args.source c.args.entries.now c.args.pieces.now c.loop-entry.low c.loop-entry.rest.now c.in-Some.others.now c.in-Some.entry.now c.loop-entry.below.now c.in_ok-left.left.now c.loop-entry.laid.items c.push_between.new.pushed.items c.push.new.self.items
    c.tile_id.result (c.tile_id-in-Some.result + c.from.result) c.in-Some.ensures.cases.0 c.tile_id.ensures (omega (arith, c.tile_id-in-Some.ensures, c.run_length.ensures, c.from.ensures)) c.in_ok-left.ensures.pushed c.in_ok-push.ensures.items c.in_ok-left.ensures.left c.in_ok-left.ensures.ordered
    c.loop-entry.invariant
