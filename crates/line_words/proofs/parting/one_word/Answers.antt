use Rattle.line_words.proofs.PartingLemmas.{more_words}
use Rattle.line_words.proofs.parting.one_word.Goals as goal

pub returns-in_default-Some : goal.returns-in_default-Some
returns-in_default-Some c = more_words c.args.line.now c.first_word.result.0.now c.in_default-Some.field-0-1.now (rw c.in_default-Some.is-1 at c.first_word.ensures)
