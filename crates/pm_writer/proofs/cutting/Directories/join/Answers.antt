use Rattle.pm_writer.proofs.Common.{ap, end_of, length, refl, rules, ◌++◌, ◌∙◌, ◌≡◌}
use Rattle.pm_writer.proofs.CuttingLemmas.{joined_are, short_both, short_left, short_right}
use Rattle.pm_writer.proofs.cutting.Directories.join.Goals as goal

pub returns-then-not-is_short-clause-causes : goal.returns-then-not-is_short-clause-causes
returns-then-not-is_short-clause-causes c = λ l w s.
    let yes = (c.is_short.ensures 0 l.leaves w.leaves).1 (short_left l.leaves l.uppers s) in
    let no = c.if-not-is_short.true in
    cc

pub returns-then-not-is_short-2-clause-causes : goal.returns-then-not-is_short-2-clause-causes
returns-then-not-is_short-2-clause-causes c = λ l w s.
    let yes = (c.is_short-2.ensures (end_of l.leaves) l.uppers w.uppers).1 (short_right l.leaves l.uppers s) in
    let no = c.if-not-is_short-2.true in
    cc

pub returns-clause-are : goal.returns-clause-are
returns-clause-are c = λ l w.
    let below = c.in_ok-extend_from_slice.ensures.items ∙ ap (λ z. c.args.leaves.bytes.items ++ z) c.deref.ensures.value in
    let leaves : c.len.result ≡ length c.args.leaves.names.items = search rules in
    let uppers : c.len-2.result ≡ length c.args.uppers.names.items = search rules in
    joined_are c.args.root.items c.args.leaves c.args.uppers _ l w refl below leaves uppers

pub returns-clause-causes : goal.returns-clause-causes
returns-clause-causes c = λ l w.
    let lower = (c.is_short.ensures 0 l.leaves w.leaves).0 c.if-not-is_short.false in
    let upper = (c.is_short-2.ensures (end_of l.leaves) l.uppers w.uppers).0 c.if-not-is_short-2.false in
    short_both l.leaves l.uppers lower upper
