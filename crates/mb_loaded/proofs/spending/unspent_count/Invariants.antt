use Rattle.mb_loaded.proofs.Common.{IsSpent, length, ℕ, ◌<◌, ◌≤◌}
use Rattle.mb_loaded.proofs.spending.unspent_count.Given as goal

-- the contents that were passed are spent
abbrev pub invariant-loop-left : goal.invariant-loop-left
invariant-loop-left l = record {
  within : l.left ≤ length l.contents;
  spent : (k : ℕ) → l.left ≤ k → k < length l.contents → IsSpent l.contents l.last k l.index;
}

abbrev pub decreases-loop-left : goal.decreases-loop-left
decreases-loop-left l = l.left
