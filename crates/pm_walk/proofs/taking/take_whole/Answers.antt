use Rattle.pm_walk.proofs.Common.{ap, arith, header_of, IfOk, IfSome, IsTaken, MAX_TILE_ID, Ok, Some, subst, Takes, Whole, ◌+◌, ◌∙◌, ◌≤◌}
use Rattle.pm_walk.proofs.TakingLemmas.{empty_taken, want_tile, whole_refused, whole_taken}
use Rattle.pm_walk.proofs.taking.take_whole.Goals as goal

pub returns-in-Ok-clause-takes : goal.returns-in-Ok-clause-takes
returns-in-Ok-clause-takes g c = λ old held.
    let is = c.in-Ok-Some.is ∙ ap (λ o. Ok o) c.in-Ok-Some.field-0-is in
    let taken : IsTaken c.args.collecting.now.room c.args.entry (Some c.in-Ok-Some.contents) = subst (λ r. IfOk r (IsTaken c.args.collecting.now.room c.args.entry)) is c.read_whole.ensures.taken in
    let shallow = taken.1 in
    let within : c.args.entry.tile_id + c.args.entry.run_length ≤ MAX_TILE_ID + 1 = omega (arith, shallow) in
    whole_taken g.T.TakesEntries.holds (g.B.Backend.told c.args.backend.now) (header_of c.args.state.now) c.args.entry old c.add_part.new.self.taker c.args.collecting.now.room c.add_part.new.self.room c.in-Ok-Some.contents c.requires.run within held.1 taken
    (subst (λ r. IfSome (g.B.Backend.told c.args.backend.now) (λ b. Takes c.args.collecting.now.room (header_of c.args.state.now) b c.args.entry r)) is c.read_whole.ensures.answer) (c.in-Ok.ensures old held)

pub returns-in-Err-add_part-clause-takes : goal.returns-in-Err-add_part-clause-takes
returns-in-Err-add_part-clause-takes g c = λ old held. want_tile g.T.TakesEntries.holds Whole (g.B.Backend.told c.args.backend.now) (header_of c.args.state.now) _ c.args.entry old c.add_part.new.self.taker c.add_part.new.self.room

pub returns-in-Ok-None-clause-takes : goal.returns-in-Ok-None-clause-takes
returns-in-Ok-None-clause-takes g c = λ old held.
    let is = c.in-Ok-None.is ∙ ap (λ o. Ok o) c.in-Ok-None.field-0-is in
    empty_taken g.T.TakesEntries.holds (g.B.Backend.told c.args.backend.now) (header_of c.args.state.now) c.args.entry old c.args.collecting.now.taker c.args.collecting.now.room (subst (λ r. IfOk r (IsTaken c.args.collecting.now.room c.args.entry)) is c.read_whole.ensures.taken)
    (subst (λ r. IfSome (g.B.Backend.told c.args.backend.now) (λ b. Takes c.args.collecting.now.room (header_of c.args.state.now) b c.args.entry r)) is c.read_whole.ensures.answer) held

pub returns-in-Err-clause-takes : goal.returns-in-Err-clause-takes
returns-in-Err-clause-takes g c = λ old held.
    whole_refused g.T.TakesEntries.holds (g.B.Backend.told c.args.backend.now) (header_of c.args.state.now) c.args.entry old c.args.collecting.now.taker c.args.collecting.now.room c.in-Err.error
    (subst (λ r. IfSome (g.B.Backend.told c.args.backend.now) (λ b. Takes c.args.collecting.now.room (header_of c.args.state.now) b c.args.entry r)) c.in-Err.is c.read_whole.ensures.answer) held
