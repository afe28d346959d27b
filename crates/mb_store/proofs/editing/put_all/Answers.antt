use Rattle.mb_store.proofs.EditLemmas.{added_all, added_first, added_next, fits_wide}
use Rattle.mb_store.proofs.editing.put_all.Goals as goal

pub loop-change-init : goal.loop-change-init
loop-change-init c = added_first c.args.table c.args.changes.now c.args.rows.now c.requires.stored

pub put-requires-clause-fits : goal.put-requires-clause-fits
put-requires-clause-fits c mine = fits_wide c.args.table c.args.changes.now c.loop-change.change-index c.change-item.result c.requires.sound c.loop-change-test.true c.change-item.is mine

pub loop-change-preserved : goal.loop-change-preserved
loop-change-preserved c = added_next c.args.table c.args.changes.now c.requires.sound c.loop-change.change-index c.args.rows.now.next c.args.rows.now.stored.keys c.loop-change.rows c.put.new.rows c.change-item.result c.loop-change-test.true c.change-item.is c.loop-change.invariant c.in_ok-put.ensures.ok c.put.ensures.stored c.put.ensures.later

pub returns-clause-ok : goal.returns-clause-ok
returns-clause-ok c = added_all c.args.table c.args.changes.now c.loop-change.change-index c.args.rows.now.next c.args.rows.now.stored.keys c.loop-change.rows c.loop-change-test.false c.loop-change.invariant
