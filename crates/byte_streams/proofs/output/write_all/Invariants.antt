-- what the sink gained is the front that was written
use Rattle.byte_streams.proofs.Common.{Gains, KeepsSink, length, take, ◌-◌, ◌≡◌, ◌≤◌}
use Rattle.byte_streams.proofs.output.write_all.Given as goal

abbrev pub invariant-loop-done : goal.invariant-loop-done
invariant-loop-done g l =
    let k = g.K.Sink in
    record {
      moved : Gains (k.held l.fn.sink) (k.held l.sink) (take l.done l.text);
      within : l.done ≤ length l.text;
      still : k.faults l.sink ≡ k.faults l.fn.sink;
      kept : KeepsSink k.held k.faults k.steady l.fn.sink l.sink;
    }

abbrev pub decreases-loop-done : goal.decreases-loop-done
decreases-loop-done g l = length l.text - l.done
