use Rattle.pm_writer.proofs.Common.{ap, arith, dir_bytes, fits_root, length-map, map, sym, wide_as, ◌∙◌}
use Rattle.pm_writer.proofs.Built.{in_none, in_some, not_rooted, rooted}
use Rattle.pm_writer.proofs.Trying.{tried_short, trying_first, trying_more}
use Rattle.pm_writer.proofs.cutting.best_uppers.Goals as goal

pub loop-uppers-init : goal.loop-uppers-init
loop-uppers-init c = trying_first c.args.place c.args.first (map wide_as c.args.names.now) c.requires.some

pub returns-in-Some : goal.returns-in-Some
returns-in-Some c =
    let s = in_some _ _ _ _ c.in-Some.is c.in_ok-root.ensures in
    let same = ap (map wide_as) c.deref.ensures.value in
    rooted c.in_ok-uppers.uppers c.in-Some.root.items c.args.place c.args.first c.loop-uppers.size (map wide_as c.args.names.now) c.in_ok-uppers.ensures.is (ap fits_root (sym same) ∙ s.0) (s.1 ∙ ap dir_bytes same) c.loop-uppers.invariant

pub overflow_add-size : goal.overflow_add-size
overflow_add-size c =
    let no = not_rooted c.in_ok-uppers.uppers c.args.place c.loop-uppers.size (map wide_as c.args.names.now) c.in_ok-uppers.ensures.is (ap fits_root (sym (ap (map wide_as) c.deref.ensures.value)) ∙ in_none _ _ _ c.in-None.is c.in_ok-root.ensures) in
    omega (arith, tried_short c.args.place c.loop-uppers.size (map wide_as c.args.names.now) no, length-map c.args.names.now wide_as, c.requires.room)

pub loop-uppers-smaller : goal.loop-uppers-smaller
loop-uppers-smaller c =
    let no = not_rooted c.in_ok-uppers.uppers c.args.place c.loop-uppers.size (map wide_as c.args.names.now) c.in_ok-uppers.ensures.is (ap fits_root (sym (ap (map wide_as) c.deref.ensures.value)) ∙ in_none _ _ _ c.in-None.is c.in_ok-root.ensures) in
    omega (arith, tried_short c.args.place c.loop-uppers.size (map wide_as c.args.names.now) no, length-map c.args.names.now wide_as, c.loop-uppers.invariant.low)

pub loop-uppers-preserved : goal.loop-uppers-preserved
loop-uppers-preserved c =
    let no = not_rooted c.in_ok-uppers.uppers c.args.place c.loop-uppers.size (map wide_as c.args.names.now) c.in_ok-uppers.ensures.is (ap fits_root (sym (ap (map wide_as) c.deref.ensures.value)) ∙ in_none _ _ _ c.in-None.is c.in_ok-root.ensures) in
    trying_more c.args.place c.args.first c.loop-uppers.size (map wide_as c.args.names.now) no c.loop-uppers.invariant
