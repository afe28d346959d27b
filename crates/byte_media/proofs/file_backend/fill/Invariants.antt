-- no more came than the buffer has room for
use Rattle.byte_media.proofs.Common.{length, ◌≤◌}
use Rattle.byte_media.proofs.file_backend.fill.Given as goal

abbrev pub invariant-loop : goal.invariant-loop
invariant-loop l = l.got ≤ length l.buffer
