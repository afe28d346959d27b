use Rattle.mb_check.proofs.Common.{arith, entries, len-entries}
use Rattle.mb_check.proofs.SizesLemmas.{total_end, total_more}
use Rattle.mb_check.proofs.totals.total_size.Goals as goal

pub loop-index-preserved : goal.loop-index-preserved
loop-index-preserved c = total_more (entries c.args.set.now.state.tiles) c.loop-index.index c.loop-index.total c.saturating_add-total.result c.unwrap_or-size.result c.size_of.result c.tile_at.result.0 c.tile_at.result.1.now (omega (arith, len-entries c.args.set.now.state.tiles)) c.tile_at.ensures c.size_of.ensures c.unwrap_or-size.ensures c.saturating_add-total.ensures c.loop-index.invariant

pub returns : goal.returns
returns c = total_end (entries c.args.set.now.state.tiles) c.loop-index.index c.loop-index.total (omega (arith, len-entries c.args.set.now.state.tiles)) c.loop-index.invariant
