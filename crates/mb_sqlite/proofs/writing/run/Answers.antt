use Rattle.mb_sqlite.proofs.Common.{rules}
use Rattle.mb_sqlite.proofs.WritingLemmas.{is_run}
use Rattle.mb_sqlite.proofs.writing.run.Goals as goal

pub returns-clause-runs : goal.returns-clause-runs
returns-clause-runs g c = is_run g.S.Store _ _ _ _ c.in_ok-execute.field-0 _ c.in_ok-execute.ensures.ended c.in_ok-execute.ensures.runs

pub returns-clause-kept : goal.returns-clause-kept
returns-clause-kept g c = record { survives = search rules; stands = search rules; inside = λ clean inside. (c.in_ok-execute.ensures.runs clean inside).1.mode }
