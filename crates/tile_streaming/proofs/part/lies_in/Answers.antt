use Rattle.tile_streaming.proofs.IntervalLemmas.{lies_at, lies_past}
use Rattle.tile_streaming.proofs.part.lies_in.Goals as goal

pub returns-then-first-intervals : goal.returns-then-first-intervals
returns-then-first-intervals c = lies_past c.args.id c.args.intervals.now c.ended_before-first.result c.requires c.ended_before-first.ensures c.if-first-intervals.true

pub returns : goal.returns
returns c = lies_at c.args.id c.args.intervals.now c.ended_before-first.result (0, 0) c.requires c.ended_before-first.ensures c.if-first-intervals.false
