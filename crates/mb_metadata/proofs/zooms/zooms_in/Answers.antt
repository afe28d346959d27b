use Rattle.mb_metadata.proofs.Common.{arith, entries, len-entries}
use Rattle.mb_metadata.proofs.ZoomLemmas.{span_end, span_more}
use Rattle.mb_metadata.proofs.zooms.zooms_in.Goals as goal

pub loop-index-preserved : goal.loop-index-preserved
loop-index-preserved c = span_more (entries c.args.set.now.state.tiles) c.loop-index.index c.loop-index.span c.with_zoom-next.result c.z.result c.tile_at-coord.result.0 c.tile_at-coord.result.1.now (omega (arith, len-entries c.args.set.now.state.tiles)) c.tile_at-coord.ensures c.z.ensures.value c.with_zoom-next.ensures c.loop-index.invariant

pub returns : goal.returns
returns c = span_end (entries c.args.set.now.state.tiles) c.loop-index.index c.loop-index.span (omega (arith, len-entries c.args.set.now.state.tiles)) c.loop-index.invariant
