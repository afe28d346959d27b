use Rattle.pm_walk.proofs.Common.{header_of, IfErr, StopCauses, subst, sym, TakesTile}
use Rattle.pm_walk.proofs.TakingLemmas.{whole_as}
use Rattle.pm_walk.proofs.taking.take.Goals as goal

pub returns-in-Within-clause-takes : goal.returns-in-Within-clause-takes
returns-in-Within-clause-takes g c = λ old held.
    subst (λ x. TakesTile g.T.TakesEntries.holds x (g.B.Backend.told c.args.backend.now) (header_of c.args.state.now) c.args.intervals.now c.args.entry old c.take_parts.new.collecting.taker c.take_parts.new.collecting.room c.take_parts.result) (sym c.in-Within.is)
    (c.take_parts.ensures.takes (g.B.Backend.told c.args.backend.now) (header_of c.args.state.now) old held)

pub returns-in-Within-clause-causes : goal.returns-in-Within-clause-causes
returns-in-Within-clause-causes g c =
    let faults = g.B.Backend.faults c.args.backend.now in
    subst (λ x. IfErr c.take_parts.result (StopCauses x faults faults)) (sym c.in-Within.is) (c.take_parts.ensures.causes faults faults)

pub returns-in-Whole-clause-takes : goal.returns-in-Whole-clause-takes
returns-in-Whole-clause-takes g c = λ old held.
    whole_as g.T.TakesEntries.holds c.args.extent (g.B.Backend.told c.args.backend.now) (header_of c.args.state.now) c.args.intervals.now c.args.entry old c.take_whole.new.collecting.taker c.take_whole.new.collecting.room c.take_whole.result c.in-Whole.is (c.take_whole.ensures.takes old held)
