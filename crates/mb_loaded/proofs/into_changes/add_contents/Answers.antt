use Rattle.mb_loaded.proofs.Common.{arith, length, ◌<◌}
use Rattle.mb_loaded.proofs.TakenLemmas.{contents_next}
use Rattle.mb_loaded.proofs.into_changes.add_contents.Goals as goal

pub loop-index-preserved : goal.loop-index-preserved
loop-index-preserved c =
    let i = c.loop-index.index in
    let order = c.args.order.now in
    let lt : i < length order = omega (arith, c.loop-index-test.true) in
    let n = contents_next c.args.layout c.args.contents.now.items c.loop-index.contents.items c.add_listed.new.contents.items c.args.changes.now c.requires.others order i _ c.loop-index.changes c.add_listed.new.changes c.requires.apart lt c.loop-index.invariant.each c.loop-index.invariant.left c.loop-index.invariant.changes c.in_ok-add_listed.ensures.change c.in_ok-add_listed.ensures.left in
    record {
      within = omega (arith, lt);
      changes = n.0;
      each = n.1;
      left = n.2;
    }
