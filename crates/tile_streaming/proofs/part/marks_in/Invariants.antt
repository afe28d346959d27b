-- the marks so far are kept
use Rattle.std.proofs.Common.{◌≡◌, filter, take}
use Rattle.tile_streaming.specs.Part.{lies}
use Rattle.tile_streaming.proofs.part.marks_in.Given as goal

abbrev pub invariant-loop-mark : goal.invariant-loop-mark
invariant-loop-mark l = l.kept.items ≡ filter (lies l.items) (take l.mark-index l.marks)
