use Rattle.mb_sqlite.proofs.Common.{rules}
use Rattle.mb_sqlite.proofs.AskingLemmas.{asked_keeps, shown_keeps}
use Rattle.mb_sqlite.proofs.query.ask.Goals as goal

pub returns-in_err-rows-clause-kept : goal.returns-in_err-rows-clause-kept
returns-in_err-rows-clause-kept g c = record { survives = search rules; stands = λ clean inside. asked_keeps _ _ _ _ _ (c.in_err-rows.ensures.err clean); inside = search rules }

pub returns-clause-kept : goal.returns-clause-kept
returns-clause-kept g c =
    record {
      survives = search rules;
      stands = λ clean inside. (shown_keeps _ _ _ _ _ inside (c.in_ok-rows.ensures.ok clean)).0;
      inside = λ clean inside. (shown_keeps _ _ _ _ _ inside (c.in_ok-rows.ensures.ok clean)).1;
    }
