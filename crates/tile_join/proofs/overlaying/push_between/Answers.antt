use Rattle.tile_join.proofs.Common.{arith}
use Rattle.tile_join.proofs.OverLemmas.{last_pushed}
use Rattle.tile_join.proofs.overlaying.push_between.Goals as goal

pub returns-then-end-tile_id-clause-pushed : goal.returns-then-end-tile_id-clause-pushed
returns-then-end-tile_id-clause-pushed c =
    last_pushed c.args.low c.args.end c.args.pieces.now c.loop-piece.rest.now c.in-Some.others.now c.args.pushed.now.items c.loop-piece.pushed.items c.push_part.new.pushed.items c.in-Some.piece.now
    c.in-Some.ensures.cases.0 c.in_ok-push_part.ensures (omega (arith, c.tile_id.ensures, c.run_length.ensures, c.from.ensures, c.if-end-tile_id.true)) c.loop-piece.invariant
