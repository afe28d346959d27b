use Rattle.pm_writer.proofs.Common.{ap, first_within, sym, ◌∙◌}
use Rattle.pm_writer.proofs.Ordered.{sorted_entries, least_twice}
use Rattle.pm_writer.proofs.adds.Adds.into_entries.Goals as goal

pub returns-in-Some : goal.returns-in-Some
returns-in-Some c = λ adds m.
    least_twice adds c.into_unsorted-entries.result.items c.sort_by_id.new.entries.items c.in-Some.id (ap (λ z. z.items) c.into_unsorted-entries.ensures ∙ m.rest.entries) c.sort_by_id.ensures.same c.sort_by_id.ensures.rising
    (ap first_within (sym c.deref.ensures.value) ∙ sym c.in-Some.ensures)

pub returns-in-None : goal.returns-in-None
returns-in-None c = λ adds m.
    sorted_entries adds c.into_unsorted-entries.result.items c.sort_by_id.new.entries.items (ap (λ z. z.items) c.into_unsorted-entries.ensures ∙ m.rest.entries) c.sort_by_id.ensures.same c.sort_by_id.ensures.rising
    (ap first_within (sym c.deref.ensures.value) ∙ sym c.in-None.ensures)
