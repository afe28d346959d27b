use Rattle.mb_loaded.proofs.ChangeSteps.{name_step}
use Rattle.mb_loaded.proofs.changes.add_names.Goals as goal

pub loop-entry-preserved : goal.loop-entry-preserved
loop-entry-preserved c = name_step c.args.changes.now c.requires.others c.args.names.now c.loop-entry.entry-index c.entry-item.result c.loop-entry.changes c.add_name.new.changes c.requires.apart c.loop-entry-test.true c.entry-item.is c.loop-entry.invariant c.in_ok-add_name.ensures
