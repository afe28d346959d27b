use Rattle.mb_copy.proofs.Common.{ap, arith, contains_key, entries, len-entries, none_made, one_before, State, time_put, ◌∙◌}
use Rattle.mb_copy.proofs.TileStateLemmas.{times_state_last}
use Rattle.mb_copy.proofs.edits.put_all_times.Goals as goal

pub loop-left-init : goal.loop-left-init
loop-left-init c =
    let start = none_made (time_put c.args.put.now.state.dates) (entries c.args.put.now.state.tiles) c.tile_count-left.result c.args.set.now (c.tile_count-left.ensures ∙ len-entries c.args.put.now.state.tiles) in
    record { within = start.0; made = start.1 }

pub loop-left-preserved : goal.loop-left-preserved
loop-left-preserved c =
    let next = one_before (time_put c.args.put.now.state.dates) (entries c.args.put.now.state.tiles) c.loop-left.left c.args.set.now c.loop-left.set c.put_time.new.set c.loop-left-test.true c.loop-left.invariant.within c.loop-left.invariant.made c.in_ok-put_time.ensures in
    record { within = next.0; made = next.1 }

pub put_time-requires-clause-index : goal.put_time-requires-clause-index
put_time-requires-clause-index c = omega (arith, c.loop-left-test.true, c.loop-left.invariant.within, len-entries c.args.put.now.state.tiles)

pub put_time-requires-clause-layout : goal.put_time-requires-clause-layout
put_time-requires-clause-layout c = ap (λ (s : State). s.layout) (times_state_last c.args.put.now.state.dates c.args.set.now c.loop-left.set (entries c.args.put.now.state.tiles) c.loop-left.left c.loop-left.invariant.made) ∙ c.requires.layout

pub put_time-requires-clause-there : goal.put_time-requires-clause-there
put_time-requires-clause-there c p h = ap (λ (s : State). contains_key s.tiles p) (times_state_last c.args.put.now.state.dates c.args.set.now c.loop-left.set (entries c.args.put.now.state.tiles) c.loop-left.left c.loop-left.invariant.made) ∙ c.requires.there p h
