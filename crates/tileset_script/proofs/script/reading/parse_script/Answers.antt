use Rattle.tileset_script.proofs.Common.{arith, drafted, EndsAs, HasNo, IfSome, length, option_copied, subst, sym, TakesLines}
use Rattle.tileset_script.proofs.ReaderLemmas.{parse_ends, parse_stops}
use Rattle.tileset_script.proofs.script.reading.parse_script.Goals as goal

pub returns-in-Some-clause-reads : goal.returns-in-Some-clause-reads
returns-in-Some-clause-reads c =
    let d = drafted c.new-draft.result in
    let e = drafted c.take_lines.new.draft in
    let taken = subst (λ o. TakesLines 1 d c.args.input.now (option_copied o) c.take_lines.new.number e) c.in-Some.is (c.in_ok-line.ensures.lines (omega (arith, c.requires.small))) in
    let single = subst (λ o. IfSome o (λ r. HasNo 10 r.now (length r.now))) c.in-Some.is c.in_ok-line.ensures.whole in
    subst (λ due. EndsAs due c.end.result) (sym (parse_ends c.args.input.now c.in-Some.line.now c.take_lines.new.number d e c.new-draft.ensures.empty taken))
    (c.end.ensures.ends (omega (arith, taken.0, c.requires.small)) single)

pub returns-in-None-clause-reads : goal.returns-in-None-clause-reads
returns-in-None-clause-reads c =
    let d = drafted c.new-draft.result in
    let e = drafted c.take_lines.new.draft in
    let taken = subst (λ o. TakesLines 1 d c.args.input.now (option_copied o) c.take_lines.new.number e) c.in-None.is (c.in_ok-line.ensures.lines (omega (arith, c.requires.small))) in
    parse_stops c.args.input.now c.take_lines.new.number d e c.new-draft.ensures.empty taken
