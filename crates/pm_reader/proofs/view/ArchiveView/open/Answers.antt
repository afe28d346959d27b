use Rattle.pm_reader.proofs.Common.{ap, headed, IsOpenRefusal, subst, viewed, ◌∙◌}
use Rattle.pm_reader.proofs.OpeningLemmas.{Within, front_within, opened_by_front}
use Rattle.pm_reader.proofs.RowReadLemmas.{refused_as, said_of}
use Rattle.pm_reader.proofs.ViewLemmas.{view_opens}
use Rattle.pm_reader.proofs.view.ArchiveView.open.Goals as goal

pub returns-in_err-header-clause-answer : goal.returns-in_err-header-clause-answer
returns-in_err-header-clause-answer c =
    refused_as c.from_residual.result _ c.in_err-header.field-0.0 c.from_residual.ensures.1
    (ap (viewed c.args.bytes.now) (opened_by_front c.args.bytes.now c.front_of.result.now c.front_of.ensures ∙ c.in_err-header.ensures.refused))

pub invariant_of-result : goal.invariant_of-result
invariant_of-result c = rw (opened_by_front c.args.bytes.now c.front_of.result.now c.front_of.ensures) c.in_ok-header.ensures.found

pub returns-clause-answer : goal.returns-clause-answer
returns-clause-answer c = view_opens c.args.bytes.now _ c.in_ok-header.header (ap headed (opened_by_front c.args.bytes.now c.front_of.result.now c.front_of.ensures) ∙ c.in_ok-header.ensures.found.headed)

pub returns-in_err-header-clause-refusal : goal.returns-in_err-header-clause-refusal
returns-in_err-header-clause-refusal c = said_of c.from_residual.result c.in_err-header.field-0.0 IsOpenRefusal c.from_residual.ensures.1 (subst Within c.in_err-header.ensures.refused (front_within c.front_of.result.now))
