use Rattle.mb_loaded.proofs.Common.{arith}
use Rattle.mb_loaded.proofs.CopyLemmas.{one_copied}
use Rattle.mb_loaded.proofs.copying.copy_tiles.Goals as goal

pub loop-left-preserved : goal.loop-left-preserved
loop-left-preserved c = record {
  within = omega (arith, c.loop-left.invariant.within);
  copying = c.in_ok-copy_tile.ensures.copying;
  edits = one_copied c.args.others.now c.args.tiles.now c.loop-left.left c.index-tiles-left.result c.args.copying.now c.loop-left.copying c.copy_tile.new.copying c.loop-left-test.true c.loop-left.invariant.within c.index-tiles-left.is c.loop-left.invariant.edits c.in_ok-copy_tile.ensures.edits;
}
