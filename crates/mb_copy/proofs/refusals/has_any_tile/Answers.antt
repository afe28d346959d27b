use Rattle.mb_copy.proofs.Common.{arith, entries, len-entries, tile_there}
use Rattle.mb_copy.proofs.EntryLemmas.{none_at_all, none_yet, one_found}
use Rattle.mb_copy.proofs.refusals.has_any_tile.Goals as goal

pub returns-then-has_tile : goal.returns-then-has_tile
returns-then-has_tile c = one_found (tile_there c.args.copier.now c.args.base.now.state) (entries c.args.source.now.state.tiles) c.loop-index.index c.has_tile.result (omega (arith, len-entries c.args.source.now.state.tiles)) c.has_tile.ensures c.if-has_tile.true c.loop-index.invariant

pub loop-index-preserved : goal.loop-index-preserved
loop-index-preserved c = none_yet (tile_there c.args.copier.now c.args.base.now.state) (entries c.args.source.now.state.tiles) c.loop-index.index c.has_tile.result (omega (arith, len-entries c.args.source.now.state.tiles)) c.has_tile.ensures c.if-has_tile.false c.loop-index.invariant

pub returns : goal.returns
returns c = none_at_all (tile_there c.args.copier.now c.args.base.now.state) (entries c.args.source.now.state.tiles) c.loop-index.index (omega (arith, len-entries c.args.source.now.state.tiles)) c.loop-index.invariant
