-- the marks so far are those of the rows so far
use Rattle.tile_streaming.proofs.Common.{Cell, Knows, List, marks_in, take, ◌++◌, ◌≡◌}
use Rattle.tile_streaming.proofs.row_marks.add_marks.Given as goal

abbrev pub invariant-loop-row : goal.invariant-loop-row
invariant-loop-row l = (contents : List (List Cell)) → Knows contents l.known → l.marks.items ≡ l.fn.marks.items ++ marks_in l.layout contents (take l.row-index l.rows)
