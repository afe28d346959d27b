-- the lines of what was written so far
use Rattle.tileset.proofs.Common.{Gains, hex_dump, IfSome, KeepsMedium, KeepsSink, take, ◌%◌, ◌-◌, ◌<◌, ◌≡◌, ◌≤◌}
use Rattle.tileset.specs.Printed.{Grows}
use Rattle.tileset.proofs.dump.write_dump.Given as goal

abbrev pub invariant-loop-at : goal.invariant-loop-at
invariant-loop-at g l =
    let m = g.M.Backend in
    let o = g.O.Sink in
    record {
      held : IfSome (m.told l.fn.medium) (λ b. Gains (o.held l.fn.output) (o.held l.output) (hex_dump 0 (take l.at b)));
      grows : Grows (o.held l.fn.output) (o.held l.output);
      told : m.told l.medium ≡ m.told l.fn.medium;
      aligned : l.at < l.length → l.at % 32 ≡ 0;
      within : l.at ≤ l.length;
      output_kept : KeepsSink o.held o.faults o.steady l.fn.output l.output;
      medium_kept : KeepsMedium m.told m.versions m.reads m.faults m.steady l.fn.medium l.medium;
      output_still : o.faults l.output ≡ o.faults l.fn.output;
      medium_still : m.faults l.medium ≡ m.faults l.fn.medium;
    }

abbrev pub decreases-loop-at : goal.decreases-loop-at
decreases-loop-at g l = l.length - l.at
