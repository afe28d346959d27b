-- the lines so far, and those of the rest
use Rattle.tileset.proofs.Common.{answer_lines, drop, ◌++◌, ◌≡◌}
use Rattle.tileset.proofs.summary.push_answers.Given as goal

abbrev pub invariant-loop-i : goal.invariant-loop-i
invariant-loop-i l = l.text.items ++ answer_lines (drop l.i l.queries) (drop l.i l.tiles) ≡ l.initial.text.items ++ answer_lines l.queries l.tiles
