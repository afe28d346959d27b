use Rattle.mb_sqlite.proofs.Common.{rules}
use Rattle.mb_sqlite.proofs.AskingLemmas.{no_row_keeps, row_keeps}
use Rattle.mb_sqlite.proofs.query.ask_row.Goals as goal

pub returns-in_err-row-clause-kept : goal.returns-in_err-row-clause-kept
returns-in_err-row-clause-kept g c = record { survives = search rules; stands = λ clean inside. no_row_keeps _ _ _ _ _ inside (c.in_err-row.ensures.row clean); inside = search rules }

pub returns-clause-kept : goal.returns-clause-kept
returns-clause-kept g c = record {
  survives = search rules;
  stands = λ clean inside. (row_keeps _ _ _ _ _ inside (c.in_ok-row.ensures.row clean)).0;
  inside = λ clean inside. (row_keeps _ _ _ _ _ inside (c.in_ok-row.ensures.row clean)).1;
}
