use Rattle.mb_tables.proofs.Common.{length, ◌≡◌}
use Rattle.mb_tables.specs.Columns.{has_int}
use Rattle.mb_tables.proofs.columns.has_int.Given as goal

-- what is left has INT in it where the text has
abbrev pub invariant-loop-rest : goal.invariant-loop-rest
invariant-loop-rest l = has_int l.rest ≡ has_int l.text

abbrev pub decreases-loop-rest : goal.decreases-loop-rest
decreases-loop-rest l = length l.rest
