use Rattle.pm_reader.proofs.ViewLemmas.{text_invalid, text_valid}
use Rattle.pm_reader.proofs.view.text.Goals as goal

pub returns-in-Ok-clause-answer : goal.returns-in-Ok-clause-answer
returns-in-Ok-clause-answer c = text_valid _ _ c.in-Ok.ensures.cases.0 c.in-Ok.ensures.cases.1

pub returns-in-Err-clause-answer : goal.returns-in-Err-clause-answer
returns-in-Err-clause-answer c = text_invalid _ c.in-Err.ensures.cases.0
