use Rattle.archive_rows.proofs.Common.{List, ℕ}
use Rattle.pm_contents.specs.Contents.{Holds}
use Rattle.archive_rows.proofs.contents.answer.Given as goal

-- under the one number there are some contents
abbrev pub invariant-loop-turn : goal.invariant-loop-turn
invariant-loop-turn l = (cs : List (List ℕ)) × Holds (λ x. l.digest) l.contents cs
