use Rattle.mb_reading.proofs.AnswerLemmas.{same_row}
use Rattle.mb_reading.proofs.Common.{IfOk, subst, ◌≡◌}
use Rattle.mb_reading.proofs.rows.row_of_answer.Goals as goal

pub returns-clause-row : goal.returns-clause-row
returns-clause-row c = subst (λ r. IfOk c.row_of.result (λ row. row ≡ r)) (same_row c.args.table _ _ c.answer_of.ensures) c.row_of.ensures.row
