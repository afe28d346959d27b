use Rattle.pm_walk.proofs.Common.{arith, ◌≢◌}
use Rattle.pm_walk.proofs.PartingLemmas.{all_parted, empty_parted, none_parted, past_part, past_without}
use Rattle.pm_walk.proofs.parts.add_entry.Goals as goal

pub returns-then-length-eq0 : goal.returns-then-length-eq0
returns-then-length-eq0 g c = λ old held. empty_parted g.T.TakesEntries.holds c.args.entry c.args.intervals.now old c.args.collecting.now.taker c.args.collecting.now.room (omega (arith, c.length.ensures, c.if-length-eq0.true)) held

pub loop-interval-init : goal.loop-interval-init
loop-interval-init g c = (
  (let some : c.args.entry.length ≢ 0 = omega (arith, c.length.ensures, c.if-length-eq0.false) in some),
  λ old held. none_parted g.T.TakesEntries.holds c.args.entry c.args.intervals.now old c.args.collecting.now.taker c.args.collecting.now.room held,
)

pub loop-interval-preserved-in_ok-add_part : goal.loop-interval-preserved-in_ok-add_part
loop-interval-preserved-in_ok-add_part g c = (
  c.loop-interval.invariant.0,
  λ old held. past_part g.T.TakesEntries.holds c.args.entry c.args.intervals.now c.loop-interval.rest.now c.in-Some.interval.now c.in-Some.others.now old c.loop-interval.collecting.taker c.add_part.new.self.taker c.loop-interval.collecting.room c.add_part.new.self.room
      c.in-Some-clip.part c.new.result c.requires.run c.requires.within c.in-Some.ensures.cases.0 c.in-Some-clip.ensures (c.loop-interval.invariant.1 old held) c.in_ok-add_part.ensures,
)

pub loop-interval-preserved : goal.loop-interval-preserved
loop-interval-preserved g c = (
  c.loop-interval.invariant.0,
  λ old held. past_without g.T.TakesEntries.holds c.args.entry c.args.intervals.now c.loop-interval.rest.now c.in-Some.interval.now c.in-Some.others.now old c.loop-interval.collecting.taker c.loop-interval.collecting.room c.in-Some.ensures.cases.0 c.in_default-clip.ensures (c.loop-interval.invariant.1 old held),
)

pub returns : goal.returns
returns g c = λ old held. all_parted g.T.TakesEntries.holds c.args.entry c.args.intervals.now c.loop-interval.rest.now old c.loop-interval.collecting.taker c.loop-interval.collecting.room c.loop-interval.invariant.0 c.in_default.ensures.cases (c.loop-interval.invariant.1 old held)
