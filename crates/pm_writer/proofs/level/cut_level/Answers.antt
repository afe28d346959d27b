use Rattle.pm_writer.proofs.Common.{ap, arith, common_steps, drop, drop-map, HasMore, IsWritable, length, length-map, map, min, subst, sym, take, take-map, ◌<◌, ◌∙◌, ◌≡◌}
use Rattle.pm_writer.proofs.CuttingLemmas.{Cuts, cut_writable, cuts_end, cuts_first, cuts_more, part_writable, take_part}
use Rattle.pm_writer.proofs.level.cut_level.Goals as goal

pub loop-rest-init : goal.loop-rest-init
loop-rest-init g c = cuts_first c.new-level.result c.args.place c.args.size (map g.E.AsWide.entry c.args.entries.now) (c.new-level.ensures c.args.place) c.requires.fits

pub put_directory-requires-clause-fits : goal.put_directory-requires-clause-fits
put_directory-requires-clause-fits g c =
    let f = g.E.AsWide.entry in
    let front = ap (map f) c.split_at.ensures.front ∙ sym (take-map f c.min.result c.loop-rest.rest.now) in
    subst (IsWritable 0) (sym front) (part_writable c.min.result c.loop-rest.invariant.low (map f c.loop-rest.rest.now) c.loop-rest.invariant.fits)

pub loop-rest-preserved : goal.loop-rest-preserved
loop-rest-preserved g c =
    let f = g.E.AsWide.entry in
    let rest = map f c.loop-rest.rest.now in
    let whole = map f c.args.entries.now in
    let parts = take_part c.args.size rest in
    let n : c.min.result ≡ min c.args.size (length rest) = omega (arith, c.min.ensures, length-map c.loop-rest.rest.now f) in
    let first = ap (map f) c.split_at.ensures.front ∙ (sym (take-map f c.min.result c.loop-rest.rest.now) ∙ (ap (λ k. take k rest) n ∙ parts.0)) in
    let tail = ap (map f) c.split_at.ensures.back ∙ (sym (drop-map f c.min.result c.loop-rest.rest.now) ∙ (ap (λ k. drop k rest) n ∙ parts.1)) in
    let more = subst (HasMore c.loop-rest.level c.put_directory.new.level c.args.place) first c.in_ok-put_directory.ensures in
    let some : 0 < length rest = grind (arith, common_steps) in
    subst (λ z. Cuts c.put_directory.new.level c.args.place c.args.size z whole) (sym tail) (cuts_more c.loop-rest.level c.put_directory.new.level c.args.place c.args.size rest whole c.requires.some some more c.loop-rest.invariant)

pub returns-clause-fits : goal.returns-clause-fits
returns-clause-fits g c =
    let f = g.E.AsWide.entry in
    let none : length (map f c.loop-rest.rest.now) ≡ 0 = grind (arith, common_steps) in
    let cut = cuts_end c.loop-rest.level c.args.place c.args.size (map f c.loop-rest.rest.now) (map f c.args.entries.now) none c.loop-rest.invariant in
    cut_writable c.loop-rest.level c.args.place c.args.size (map f c.args.entries.now) c.requires.some c.requires.fits (omega arith) cut
