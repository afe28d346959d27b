use Rattle.line_words.proofs.PartingLemmas.{line_before}
use Rattle.line_words.proofs.lines.next_whole_line.Goals as goal

pub returns-clause-lines : goal.returns-clause-lines
returns-clause-lines c = λ more. line_before c.args.bytes.now more c.in_ok-place.place c.in_ok-place.ensures.found.0 c.in_ok-place.ensures.found.1 c.in_ok-place.ensures.before
