use Rattle.std.proofs.Common.{rules, ◌∙◌}
use Rattle.mb_file.proofs.NotedLemmas.{as_noted, noted_trans}
use Rattle.mb_file.proofs.ScanLemmas.{of_ok, restarted, rowids_of}
use Rattle.mb_file.proofs.scan.Scan.complete.Goals as goal

pub returns-then-is_err-clause-stands : goal.returns-then-is_err-clause-stands
returns-then-is_err-clause-stands g c = λ trusted layout rows laid stored scan.
    c.restart.ensures.stands (c.read_on-answer.ensures.kind ∙ rowids_of layout _ _ rows _ scan.among) layout _ _ _ _ _ rows stored scan.few

pub returns-else-is_err-clause-stands : goal.returns-else-is_err-clause-stands
returns-else-is_err-clause-stands g c = λ trusted layout rows laid stored scan.
    of_ok _ c.read_on-answer.result (search rules) (c.read_on-answer.ensures.stands trusted layout rows laid stored scan)

pub returns-then-is_err-clause-notes : goal.returns-then-is_err-clause-notes
returns-then-is_err-clause-notes g c = λ trusted layout rows laid stored scan notes.
    as_noted c.args.source.now.secret c.args.table c.args.of.now.columns rows _ c.restart.new.self (restarted _ _ c.restart.ensures.same) (c.read_on-answer.ensures.notes trusted layout rows laid stored scan notes)

pub returns-then-is_err-clause-still : goal.returns-then-is_err-clause-still
returns-then-is_err-clause-still g c =
    λ ended. noted_trans _ _ _ (c.read_on-answer.ensures.still ended) (restarted _ _ c.restart.ensures.same)
