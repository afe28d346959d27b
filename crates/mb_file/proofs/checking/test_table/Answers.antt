use Rattle.std.proofs.Common.{arith, rules, ◌≡◌}
use Rattle.mb_file.proofs.MarkLemmas.{written_back}
use Rattle.mb_file.proofs.checking.test_table.Goals as goal

pub returns-clause-ordered : goal.returns-clause-ordered
returns-clause-ordered g c = λ columns is.
    let long = c.index.auto.marks in
    let back = written_back c.args.source.now.taken.items c.as_mut_slice.result.now c.index.new.marks c.args.source.now.taken.len (omega (arith, c.args.source.now.taken.ok.0)) c.as_mut_slice.ensures.value (search rules) in
    let same : c.in-Some.columns ≡ columns = cc in
    rw (back, ← same) (rw c.as_mut_slice.ensures.value at c.index.ensures.sound)

pub returns-clause-keeps : goal.returns-clause-keeps
returns-clause-keeps g c =
    let long = c.index.auto.marks in
    let back = written_back c.args.source.now.taken.items c.as_mut_slice.result.now c.index.new.marks c.args.source.now.taken.len (omega (arith, c.args.source.now.taken.ok.0)) c.as_mut_slice.ensures.value (search rules) in
    rw back (rw c.as_mut_slice.ensures.value at c.index.ensures.keeps)
