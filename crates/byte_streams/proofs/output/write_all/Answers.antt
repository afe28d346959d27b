use Rattle.byte_streams.proofs.Common.{rules}
use Rattle.byte_streams.proofs.KeptLemmas.{sink_then}
use Rattle.byte_streams.proofs.StreamsLemmas.{Gains-part}
use Rattle.byte_streams.proofs.output.write_all.Goals as goal

pub loop-done-preserved : goal.loop-done-preserved
loop-done-preserved g c =
    record {
      moved = Gains-part _ _ _ c.args.text.now c.loop-done.done c.in_ok-done.field-0 c.loop-done.invariant.moved c.in_ok-done.ensures.appends.2;
      within = search rules;
      still = search rules;
      kept = sink_then g.K.Sink.held g.K.Sink.faults g.K.Sink.steady _ _ _ c.loop-done.invariant.kept c.in_ok-done.ensures.kept;
    }
