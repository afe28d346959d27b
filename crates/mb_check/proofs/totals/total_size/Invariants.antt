use Rattle.mb_check.proofs.Common.{bytes_of, capped, entries, length, sum_by, take, ◌≡◌}
use Rattle.mb_check.proofs.totals.total_size.Given as goal

abbrev pub invariant-loop-index : goal.invariant-loop-index
invariant-loop-index l = l.total ≡ capped (sum_by (λ e. length (bytes_of e.1)) (take l.index (entries l.set.state.tiles)))
