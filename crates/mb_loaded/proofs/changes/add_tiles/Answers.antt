use Rattle.mb_loaded.proofs.ChangeSteps.{tile_step}
use Rattle.mb_loaded.proofs.changes.add_tiles.Goals as goal

pub loop-tile-preserved : goal.loop-tile-preserved
loop-tile-preserved c = tile_step c.args.layout c.args.algorithm c.args.contents.now c.args.tiles.now c.loop-tile.tile-index c.tile-item.result c.loop-tile.changes c.add_tile.new.changes c.requires.apart c.loop-tile-test.true c.tile-item.is c.loop-tile.invariant c.in_ok-add_tile.ensures
