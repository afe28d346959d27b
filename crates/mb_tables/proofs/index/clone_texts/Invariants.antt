use Rattle.mb_tables.proofs.Common.{take, ◌≡◌}
use Rattle.mb_tables.proofs.index.clone_texts.Given as goal

abbrev pub invariant-loop-text : goal.invariant-loop-text
invariant-loop-text l = l.copies.items ≡ take l.text-index l.texts
