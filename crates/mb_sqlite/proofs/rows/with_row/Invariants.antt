use Rattle.mb_sqlite.proofs.Common.{min, sum_by, take, value_size, ◌+◌, ◌-◌, ◌^◌, ◌≡◌}
use Rattle.mb_sqlite.proofs.rows.with_row.Given as goal

abbrev pub invariant-loop-at : goal.invariant-loop-at
invariant-loop-at l = l.sum ≡ min (l.size + sum_by value_size (take l.at l.row)) (2 ^ 64 - 1)
