use Rattle.pm_writer.proofs.Common.{ap, dir_bytes, fits_root, fits_writable, IsCut, IsWritable, laid, map, pieces, same_entries, subst, sym, wide_as, ◌∙◌}
use Rattle.pm_writer.proofs.Built.{in_some, leaves_laid}
use Rattle.pm_writer.proofs.cutting.Directories.build_below.Goals as goal

pub cut_level-requires-clause-fits : goal.cut_level-requires-clause-fits
cut_level-requires-clause-fits c = subst (IsWritable 0) (sym (same_entries c.args.entries.now)) (fits_writable 0 c.args.entries.now c.requires.fits)

pub returns-in-Some-clause-are : goal.returns-in-Some-clause-are
returns-in-Some-clause-are c = λ q.
    let s = in_some _ _ _ _ c.in-Some.is c.in_ok-root.ensures in
    let same = ap (map wide_as) c.deref.ensures.value in
    let cut = subst (λ es. IsCut c.in_ok-leaves.leaves 0 (pieces c.args.most es)) (same_entries c.args.entries.now) c.in_ok-leaves.ensures.is in
    c.join.ensures.are (laid c.args.most c.args.entries.now)
    (leaves_laid c.args.most c.args.entries.now c.in-Some.root.items c.in_ok-leaves.leaves c.new.result q cut (ap fits_root (sym same) ∙ s.0) (s.1 ∙ ap dir_bytes same) c.new.ensures)

pub returns-in-Some-clause-causes : goal.returns-in-Some-clause-causes
returns-in-Some-clause-causes c = λ q.
    let s = in_some _ _ _ _ c.in-Some.is c.in_ok-root.ensures in
    let same = ap (map wide_as) c.deref.ensures.value in
    let cut = subst (λ es. IsCut c.in_ok-leaves.leaves 0 (pieces c.args.most es)) (same_entries c.args.entries.now) c.in_ok-leaves.ensures.is in
    c.join.ensures.causes (laid c.args.most c.args.entries.now)
    (leaves_laid c.args.most c.args.entries.now c.in-Some.root.items c.in_ok-leaves.leaves c.new.result q cut (ap fits_root (sym same) ∙ s.0) (s.1 ∙ ap dir_bytes same) c.new.ensures)
