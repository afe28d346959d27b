use Rattle.std.proofs.Common.{arith, rules}
use Rattle.mb_file.proofs.MarkLemmas.{written_back}
use Rattle.mb_file.proofs.checking.test_tree.Goals as goal

pub returns-clause-sound : goal.returns-clause-sound
returns-clause-sound g c =
    let long = c.table.auto.marks in
    let back = written_back c.args.source.now.taken.items c.as_mut_slice.result.now c.table.new.marks c.args.source.now.taken.len (omega (arith, c.args.source.now.taken.ok.0)) c.as_mut_slice.ensures.value (search rules) in
    rw back (rw c.as_mut_slice.ensures.value at c.table.ensures.sound)

pub returns-clause-complete : goal.returns-clause-complete
returns-clause-complete g c =
    let long = c.table.auto.marks in
    let back = written_back c.args.source.now.taken.items c.as_mut_slice.result.now c.table.new.marks c.args.source.now.taken.len (omega (arith, c.args.source.now.taken.ok.0)) c.as_mut_slice.ensures.value (search rules) in
    rw back (rw c.as_mut_slice.ensures.value at c.table.ensures.complete)

pub returns-clause-keeps : goal.returns-clause-keeps
returns-clause-keeps g c =
    let long = c.table.auto.marks in
    let back = written_back c.args.source.now.taken.items c.as_mut_slice.result.now c.table.new.marks c.args.source.now.taken.len (omega (arith, c.args.source.now.taken.ok.0)) c.as_mut_slice.ensures.value (search rules) in
    rw back (rw c.as_mut_slice.ensures.value at c.table.ensures.keeps)
