use Rattle.pm_reader.proofs.Common.{ap, arith, Err, found_in, length-drop, sym, ◌∙◌}
use Rattle.pm_format.proofs.DecodingLemmas.{too_many, uncounted}
use Rattle.pm_reader.proofs.RowReadLemmas.{refused_as}
use Rattle.pm_reader.proofs.RowColumnLemmas.{dir_rows, no_ids, no_lengths, no_runs}
use Rattle.pm_reader.proofs.view.scan.find_in.Goals as goal

pub returns-in_err-count-clause-answer : goal.returns-in_err-count-clause-answer
returns-in_err-count-clause-answer c =
    refused_as c.from_residual.result _ c.in_err-count.field-0.0 c.from_residual.ensures.1
    (ap (found_in c.args.id) (uncounted _ c.in_err-count.ensures.none) ∙ ap Err (sym c.in_err-count.ensures.error))

pub returns-then-count-bytes-clause-answer : goal.returns-then-count-bytes-clause-answer
returns-then-count-bytes-clause-answer c = sym (ap (found_in c.args.id) (too_many _ _ _ c.in_ok-count.ensures.found (omega (arith, length-drop c.in_ok-count.ids c.args.bytes.now))))

pub returns-in_err-runs-clause-answer : goal.returns-in_err-runs-clause-answer
returns-in_err-runs-clause-answer c =
    refused_as c.from_residual-in_err-runs.result _ c.in_err-runs.field-0.0 c.from_residual-in_err-runs.ensures.1
    (ap (found_in c.args.id) (no_ids _ _ _ c.in_ok-count.ensures.found c.in_err-runs.ensures.none) ∙ ap Err (sym c.in_err-runs.ensures.error))

pub returns-in_err-lengths-clause-answer : goal.returns-in_err-lengths-clause-answer
returns-in_err-lengths-clause-answer c =
    refused_as c.from_residual-in_err-lengths.result _ c.in_err-lengths.field-0.0 c.from_residual-in_err-lengths.ensures.1
    (ap (found_in c.args.id) (no_runs _ _ _ _ c.in_ok-count.ensures.found c.in_ok-runs.ensures.found c.in_err-lengths.ensures.none) ∙ ap Err (sym c.in_err-lengths.ensures.error))

pub returns-in_err-offsets-clause-answer : goal.returns-in_err-offsets-clause-answer
returns-in_err-offsets-clause-answer c =
    refused_as c.from_residual-in_err-offsets.result _ c.in_err-offsets.field-0.0 c.from_residual-in_err-offsets.ensures.1
    (ap (found_in c.args.id) (no_lengths _ _ _ _ _ c.in_ok-count.ensures.found c.in_ok-runs.ensures.found c.in_ok-lengths.ensures.found c.in_err-offsets.ensures.none) ∙ ap Err (sym c.in_err-offsets.ensures.error))

pub returns-clause-answer : goal.returns-clause-answer
returns-clause-answer c = c.walk.ensures.answer ∙ sym (ap (found_in c.args.id) (dir_rows _ _ _ _ _ _ c.in_ok-count.ensures.found c.in_ok-runs.ensures.found c.in_ok-lengths.ensures.found c.in_ok-offsets.ensures.found))
