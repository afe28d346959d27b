use Rattle.pm_writer.proofs.Common.{arith, longest_run, rules, ◌+◌, ◌-◌, ◌≡◌}
use Rattle.pm_writer.proofs.Putting.{run_joined, run_parted}
use Rattle.pm_writer.proofs.adds.put_entry.Goals as goal

pub returns-then-taken-count-clause-ok : goal.returns-then-taken-count-clause-ok
returns-then-taken-count-clause-ok c =
    let x = c.index.result.now in
    let grown : c.new-grown.result ≡ record x { run_length = x.run_length + c.take_ids-taken.result } = cc in
    run_parted longest_run c.args.id c.args.place c.args.size c.args.count (c.len-len.result - 1) c.take_ids-taken.result c.args.entries.now.items c.push-then-taken-count.new.self.items x c.new-grown.result c.new-rest.result
    (omega arith) c.index.ensures c.take_ids-taken.ensures.is (omega arith) grown (search rules) (search rules)

pub returns-clause-ok : goal.returns-clause-ok
returns-clause-ok c =
    let x = c.index.result.now in
    let grown : c.new-grown.result ≡ record x { run_length = x.run_length + c.take_ids-taken.result } = cc in
    run_joined longest_run c.args.id c.args.place c.args.size c.args.count (c.len-len.result - 1) c.take_ids-taken.result c.args.entries.now.items x c.new-grown.result
    (omega arith) c.index.ensures c.take_ids-taken.ensures.is (omega arith) grown
