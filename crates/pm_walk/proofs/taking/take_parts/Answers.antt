use Rattle.pm_walk.proofs.Common.{Within}
use Rattle.pm_walk.proofs.TakingLemmas.{parts_taken, past_ids, want_tile, within_test}
use Rattle.pm_walk.proofs.taking.take_parts.Goals as goal

pub returns-then-not-run_in_range-clause-takes : goal.returns-then-not-run_in_range-clause-takes
returns-then-not-run_in_range-clause-takes g c = λ told h old held.
    past_ids g.T.TakesEntries.holds told h c.args.intervals.now c.args.entry old c.args.collecting.now.taker c.args.collecting.now.room c.run_in_range.result c.run_in_range.ensures c.if-not-run_in_range.true held

pub returns-in-Ok-clause-takes : goal.returns-in-Ok-clause-takes
returns-in-Ok-clause-takes g c = λ told h old held.
    parts_taken g.T.TakesEntries.holds told h c.args.intervals.now c.args.entry old c.add_entry.new.collecting.taker c.add_entry.new.collecting.room (within_test _ _ c.run_in_range.result c.run_in_range.ensures c.if-not-run_in_range.false) (c.in-Ok.ensures old held)

pub returns-in-Err-clause-takes : goal.returns-in-Err-clause-takes
returns-in-Err-clause-takes g c = λ told h old held. want_tile g.T.TakesEntries.holds Within told h c.args.intervals.now c.args.entry old c.add_entry.new.collecting.taker c.add_entry.new.collecting.room
