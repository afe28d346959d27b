use Rattle.pm_format.proofs.Common.{ap, Err, IfOk-weaker, ◌∙◌}
use Rattle.pm_format.proofs.OptionLemmas.{same_error}
use Rattle.pm_format.proofs.DecodingLemmas.{no_columns, no_runs, no_lengths, columns_from, columns_rise}
use Rattle.pm_format.proofs.directory.decode.read_columns.Goals as goal

pub returns-in_err-ids-clause-none : goal.returns-in_err-ids-clause-none
returns-in_err-ids-clause-none c = λ h. no_columns _ _ (c.in_err-ids.ensures.none (ap Err (same_error c.from_residual.result c.in_err-ids.field-0.0 _ c.from_residual.ensures.1 h)))

pub returns-in_err-runs-clause-none : goal.returns-in_err-runs-clause-none
returns-in_err-runs-clause-none c = λ h. no_runs _ _ _ _ c.in_ok-ids.ensures.found (c.in_err-runs.ensures.none (ap Err (same_error c.from_residual-in_err-runs.result c.in_err-runs.field-0.0 _ c.from_residual-in_err-runs.ensures.1 h)))

pub returns-in_err-lengths-clause-none : goal.returns-in_err-lengths-clause-none
returns-in_err-lengths-clause-none c = λ h. no_lengths _ _ _ _ _ _ c.in_ok-ids.ensures.found c.in_ok-runs.ensures.found (c.in_err-lengths.ensures.none (ap Err (same_error c.from_residual-in_err-lengths.result c.in_err-lengths.field-0.0 _ c.from_residual-in_err-lengths.ensures.1 h)))

pub returns-clause-found : goal.returns-clause-found
returns-clause-found c =
    let same = columns_from _ _ _ _ _ _ _ _ _ _ _ c.in_ok-ids.ensures.found c.in_ok-runs.ensures.found c.in_ok-lengths.ensures.found c.in_ok-ids.ensures.count c.deref.ensures.value c.deref-2.ensures.value c.deref-3.ensures.value in
    IfOk-weaker c.read_entries.result _ _ (λ v e. same ∙ e) c.read_entries.ensures.found

pub returns-clause-ordered : goal.returns-clause-ordered
returns-clause-ordered c =
    let same = columns_from _ _ _ _ _ _ _ _ _ _ _ c.in_ok-ids.ensures.found c.in_ok-runs.ensures.found c.in_ok-lengths.ensures.found c.in_ok-ids.ensures.count c.deref.ensures.value c.deref-2.ensures.value c.deref-3.ensures.value in
    IfOk-weaker c.read_entries.result _ _ (λ v e. columns_rise _ _ _ (same ∙ e)) c.read_entries.ensures.found

pub returns-clause-none : goal.returns-clause-none
returns-clause-none c =
    let same = columns_from _ _ _ _ _ _ _ _ _ _ _ c.in_ok-ids.ensures.found c.in_ok-runs.ensures.found c.in_ok-lengths.ensures.found c.in_ok-ids.ensures.count c.deref.ensures.value c.deref-2.ensures.value c.deref-3.ensures.value in
    λ h. same ∙ c.read_entries.ensures.none h
