use Rattle.tile_bridge.proofs.Common.{arith, sym}
use Rattle.tile_bridge.proofs.SizeLemmas.{all_counted, counted_more, is_long, is_much, many}
use Rattle.tile_bridge.proofs.adds.is_overflow.Goals as goal
use Rattle.tile_bridge.proofs.adds.is_overflow.Goals.{then-length-via-then-length, then-length-via-else-length+then-total}

pub returns-then-tile_count : goal.returns-then-tile_count
returns-then-tile_count c = sym (many c.args.set.now.state.tiles (omega (arith, c.tile_count.ensures, c.if-tile_count.true)))

pub returns-then-length : goal.returns-then-length
returns-then-length c = elim c.then-length.branch [
  | then-length-via-then-length w ↦ sym (is_long c.args.set.now.state.tiles c.loop-index.index c.loop-index.total c.tile_bytes.result.now (omega (arith, c.loop-index-test.true, c.tile_count-index-end.ensures)) c.tile_bytes.ensures c.loop-index.invariant w.if-length.true)
  | then-length-via-else-length+then-total w ↦ sym (is_much c.args.set.now.state.tiles c.loop-index.index c.loop-index.total c.tile_bytes.result.now (omega (arith, c.loop-index-test.true, c.tile_count-index-end.ensures)) c.tile_bytes.ensures c.loop-index.invariant w.if-total.true)
]

pub loop-index-preserved : goal.loop-index-preserved
loop-index-preserved c = counted_more c.args.set.now.state.tiles c.loop-index.index c.loop-index.total c.tile_bytes.result.now (omega (arith, c.loop-index-test.true, c.tile_count-index-end.ensures)) c.tile_bytes.ensures c.loop-index.invariant (omega (arith, c.if-length.false)) (omega (arith, c.if-total.false))

pub returns : goal.returns
returns c = sym (all_counted c.args.set.now.state.tiles c.loop-index.index c.loop-index.total (omega (arith, c.tile_count.ensures, c.if-tile_count.false)) (omega (arith, c.loop-index-test.false, c.tile_count-index-end.ensures)) c.loop-index.invariant)
