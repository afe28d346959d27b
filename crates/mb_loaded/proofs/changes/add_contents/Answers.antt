use Rattle.mb_loaded.proofs.ChangeSteps.{listed_step}
use Rattle.mb_loaded.proofs.changes.add_contents.Goals as goal

pub loop-index-preserved : goal.loop-index-preserved
loop-index-preserved c = listed_step c.args.layout c.args.contents.now c.args.changes.now c.requires.others c.args.order.now c.loop-index.index-index _ c.loop-index.changes c.add_listed.new.changes c.requires.apart c.loop-index-test.true c.loop-index.invariant c.in_ok-add_listed.ensures
