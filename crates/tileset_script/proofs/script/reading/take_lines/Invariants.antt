-- what the lines so far come to
use Rattle.tileset_script.proofs.Common.{drafted, DraftNeverFails, length, Some, TakesLines, ◌+◌, ◌<◌, ◌^◌}
use Rattle.tileset_script.proofs.script.reading.take_lines.Given as goal

abbrev pub invariant-loop-line : goal.invariant-loop-line
invariant-loop-line l = record {
  lines : l.fn.number + length l.fn.text < 2 ^ 64 → TakesLines l.fn.number (drafted l.fn.draft) l.fn.text (Some l.rest) l.number (drafted l.draft);
  unfailing : DraftNeverFails l.fn.draft → DraftNeverFails l.draft;
}

abbrev pub decreases-loop-line : goal.decreases-loop-line
decreases-loop-line l = length l.rest
