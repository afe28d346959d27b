use Rattle.mb_store.proofs.Common.{length, min, row_size, rows_of, sum_by, ◌+◌, ◌-◌, ◌<◌, ◌^◌, ◌≡◌}
use Rattle.mb_store.proofs.sizes.with_rows.Given as goal

-- the sum so far with the rows that are left
abbrev pub invariant-loop-row : goal.invariant-loop-row
invariant-loop-row l = record {
  fits : l.sum < 2 ^ 64;
  whole : min (l.sum + sum_by row_size (rows_of l.rest)) (2 ^ 64 - 1) ≡ min (l.size + sum_by row_size (rows_of l.initial.rest)) (2 ^ 64 - 1);
}

abbrev pub decreases-loop-row : goal.decreases-loop-row
decreases-loop-row l = length l.rest
