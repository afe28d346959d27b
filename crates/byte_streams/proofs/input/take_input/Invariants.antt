-- what was taken so far is what the source lost
use Rattle.byte_streams.proofs.Common.{Grew, KeepsSource, length, List, Loses, ℕ, ◌-◌, ◌≡◌, ◌≤◌}
use Rattle.byte_streams.specs.declared.input.TheConstants.{MAX_INPUT}
use Rattle.byte_streams.proofs.input.take_input.Given as goal

abbrev pub invariant-loop-count : goal.invariant-loop-count
invariant-loop-count g l =
    let s = g.S.Source in
    record {
      bytes : List ℕ;
      took : g.T.InputTaker.took l.taker bytes;
      moved : Loses (s.left l.fn.source) (s.left l.source) bytes;
      total : l.total ≡ length bytes;
      few : l.total ≤ MAX_INPUT;
      counted : Grew (s.taken l.fn.source) (s.taken l.source) (length bytes);
      still : s.faults l.source ≡ s.faults l.fn.source;
      kept : KeepsSource s.left s.taken s.faults s.steady l.fn.source l.source;
    }

abbrev pub decreases-loop-count : goal.decreases-loop-count
decreases-loop-count g l = MAX_INPUT - l.total
