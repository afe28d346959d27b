use Rattle.mb_cache.proofs.Common.{length, ◌++◌, ◌≡◌, ◌≤◌}
use Rattle.mb_cache.proofs.sizing.next_round.Given as goal

-- the entries so far, and those behind them
abbrev pub invariant-loop-entry : goal.invariant-loop-entry
invariant-loop-entry l = record {
  short : length l.round.items ≤ 64;
  whole : l.round.items ++ l.entry-iterator ≡ l.entries.keys;
}
