use Rattle.pm_format.proofs.Common.{ap, arith, Err, length-drop, Some, sym, ◌∙◌}
use Rattle.pm_format.proofs.OptionLemmas.{same_error}
use Rattle.pm_format.proofs.DecodingLemmas.{counted, uncounted, too_many}
use Rattle.pm_format.proofs.directory.Directory.decode.Goals as goal

pub returns-in_err-count-clause-none : goal.returns-in_err-count-clause-none
returns-in_err-count-clause-none c = λ _. uncounted _ c.in_err-count.ensures.none

pub returns-then-count-bytes-clause-none : goal.returns-then-count-bytes-clause-none
returns-then-count-bytes-clause-none c = λ _. too_many _ _ _ c.in_ok-count.ensures.found (omega (arith, length-drop c.in_ok-count.start c.args.bytes.now))

pub returns-in_err-entries-clause-none : goal.returns-in_err-entries-clause-none
returns-in_err-entries-clause-none c = λ h. counted _ _ _ c.in_ok-count.ensures.found ∙ c.in_err-entries.ensures.none (ap Err (same_error c.from_residual-in_err-entries.result c.in_err-entries.field-0.0 _ c.from_residual-in_err-entries.ensures.1 h))

pub returns-clause-found : goal.returns-clause-found
returns-clause-found c = counted _ _ _ c.in_ok-count.ensures.found ∙ (c.in_ok-entries.ensures.found ∙ ap Some (sym c.from_entries.ensures))
