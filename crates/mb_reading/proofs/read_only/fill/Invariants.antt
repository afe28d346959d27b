-- no more came than the buffer has room for
use Rattle.mb_reading.proofs.Common.{length, ◌≤◌}
use Rattle.mb_reading.proofs.read_only.fill.Given as goal

abbrev pub invariant-loop : goal.invariant-loop
invariant-loop l = l.got ≤ length l.buffer
