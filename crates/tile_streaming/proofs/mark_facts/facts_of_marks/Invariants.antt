-- what the marks so far say
use Rattle.tile_streaming.proofs.Common.{fold, no_facts, take, with_mark, ◌≡◌}
use Rattle.tile_streaming.proofs.mark_facts.facts_of_marks.Given as goal

abbrev pub invariant-loop-mark : goal.invariant-loop-mark
invariant-loop-mark l = l.facts ≡ fold with_mark no_facts (take l.mark-index l.marks)
