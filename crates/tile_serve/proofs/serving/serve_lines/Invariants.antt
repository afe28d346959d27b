-- the lines so far were answered, and their replies written
use Rattle.tile_serve.proofs.Common.{course, IfSome, IsServing, KeepsSink, length, opened_as, ReadsOnly, Served, tiles_of, UsesOneLength, ◌≡◌, ◌≤◌}
use Rattle.tile_serve.proofs.serving.serve_lines.Given as goal

abbrev pub invariant-loop-line : goal.invariant-loop-line
invariant-loop-line g l =
    let b = g.B.Backend in
    let k = g.O.Sink in
    record {
      serving : IsServing (b.told l.source) (b.versions l.source) l.state;
      served : IfSome (b.told l.fn.source) (λ bytes. UsesOneLength bytes → Served bytes (course (opened_as l.fn.state) (b.versions l.fn.source) (tiles_of l.fn.state) (b.reads l.fn.source))
          l.fn.requests l.rest (tiles_of l.state) (b.reads l.source) (k.held l.fn.output) (k.held l.output));
      same : opened_as l.state ≡ opened_as l.fn.state;
      later : b.reads l.fn.source ≤ b.reads l.source;
      source_still : b.faults l.source ≡ b.faults l.fn.source;
      output_still : k.faults l.output ≡ k.faults l.fn.output;
      source_kept : ReadsOnly b.told b.versions b.faults b.steady l.fn.source l.source;
      output_kept : KeepsSink k.held k.faults k.steady l.fn.output l.output;
    }

abbrev pub decreases-loop-line : goal.decreases-loop-line
decreases-loop-line g l = length l.rest
