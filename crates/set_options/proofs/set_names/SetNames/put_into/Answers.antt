use Rattle.set_options.proofs.Common.{arith, entries, len-entries, name_put, ◌∙◌}
use Rattle.set_options.proofs.SetNameLemmas.{none_made, one_before}
use Rattle.set_options.proofs.set_names.SetNames.put_into.Goals as goal

pub loop-left-init : goal.loop-left-init
loop-left-init c =
    let start = none_made name_put (entries c.args.self.now) c.name_count-left.result c.args.set.now (c.name_count-left.ensures ∙ len-entries c.args.self.now) in
    record { within = start.0; made = start.1 }

pub put_name-requires : goal.put_name-requires
put_name-requires c = omega (arith, c.loop-left-test.true, c.loop-left.invariant.within, len-entries c.args.self.now)

pub loop-left-preserved : goal.loop-left-preserved
loop-left-preserved c =
    let next = one_before name_put (entries c.args.self.now) c.loop-left.left c.args.set.now c.loop-left.set c.put_name.new.set c.loop-left-test.true c.loop-left.invariant.within c.loop-left.invariant.made c.in_ok-put_name.ensures in
    record { within = next.0; made = next.1 }
