use Rattle.mb_check.proofs.Common.{arith, entries, len-entries}
use Rattle.mb_check.proofs.SizesLemmas.{all_taken, one_taken}
use Rattle.mb_check.proofs.totals.take_tiles.Goals as goal

pub loop-index-preserved : goal.loop-index-preserved
loop-index-preserved c = one_taken c.args.sizes.now c.loop-index.sizes c.take_tile.new.sizes (entries c.args.set.now.state.tiles) c.loop-index.index (omega (arith, len-entries c.args.set.now.state.tiles)) c.take_tile.ensures c.loop-index.invariant

pub returns-clause-taken : goal.returns-clause-taken
returns-clause-taken c = all_taken c.args.sizes.now c.loop-index.sizes (entries c.args.set.now.state.tiles) c.loop-index.index (omega (arith, len-entries c.args.set.now.state.tiles)) c.loop-index.invariant
