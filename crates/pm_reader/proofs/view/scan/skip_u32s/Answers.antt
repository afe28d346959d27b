use Rattle.pm_reader.proofs.Common.{sym, u32_number, ◌∙◌}
use Rattle.pm_reader.proofs.RowReadLemmas.{holds_on_err, skip_first, skip_step, skip_stop, skip_done}
use Rattle.pm_reader.proofs.view.scan.skip_u32s.Goals as goal

pub loop-i-init : goal.loop-i-init
loop-i-init c = skip_first _ _ _ _ _ c.requires

pub loop-i-preserved : goal.loop-i-preserved
loop-i-preserved c = skip_step _ _ _ _ _ _ _ _ _ c.loop-i-test.true c.in_ok-_number.ensures.place.1 (sym (u32_number _) ∙ c.in_ok-_number.ensures.found) c.loop-i.invariant

pub returns-in_err-_number-clause-none : goal.returns-in_err-_number-clause-none
returns-in_err-_number-clause-none c = holds_on_err c.from_residual.result (skip_stop _ _ _ _ _ _ _ c.loop-i-test.true (sym (u32_number _) ∙ c.in_err-_number.ensures.none) c.loop-i.invariant)

pub returns-clause-found : goal.returns-clause-found
returns-clause-found c = skip_done _ _ _ _ _ _ _ c.loop-i-test.false c.loop-i.invariant
