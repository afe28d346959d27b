use Rattle.pm_writer.proofs.Common.{ap, dir_bytes, laid, stands_in_root, sym, ◌∙◌}
use Rattle.pm_writer.proofs.Built.{in_some, flat_laid}
use Rattle.pm_writer.proofs.cutting.Directories.build.Goals as goal

pub returns-in-Some-clause-are : goal.returns-in-Some-clause-are
returns-in-Some-clause-are c =
    let s = in_some _ _ _ _ c.in-Some.is c.in_ok-flat.ensures in
    let same = c.deref.ensures.value in
    c.join.ensures.are (laid c.args.most c.args.entries.items) (flat_laid c.args.most c.args.entries.items c.in-Some.root.items c.new.result c.new-in-Some.result (ap stands_in_root (sym same) ∙ s.0) (s.1 ∙ ap dir_bytes same) c.new.ensures c.new-in-Some.ensures)

pub returns-in-Some-clause-causes : goal.returns-in-Some-clause-causes
returns-in-Some-clause-causes c =
    let s = in_some _ _ _ _ c.in-Some.is c.in_ok-flat.ensures in
    let same = c.deref.ensures.value in
    c.join.ensures.causes (laid c.args.most c.args.entries.items) (flat_laid c.args.most c.args.entries.items c.in-Some.root.items c.new.result c.new-in-Some.result (ap stands_in_root (sym same) ∙ s.0) (s.1 ∙ ap dir_bytes same) c.new.ensures c.new-in-Some.ensures)
