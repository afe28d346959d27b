use Rattle.mb_store.proofs.Common.{AreStored, filter, is_early, length, not, ◌≡◌}
use Rattle.mb_store.proofs.editing.remove.Given as goal

-- the key stays, and no other rows are removed
abbrev pub invariant-loop-first : goal.invariant-loop-first
invariant-loop-first l = record {
  key : l.key ≡ (l.fn.key.0, 0);
  stored : AreStored l.fn.table l.rows;
  others : filter (λ s. not (is_early l.fn.key.0 l.fn.start s)) l.rows.stored.keys ≡ filter (λ s. not (is_early l.fn.key.0 l.fn.start s)) l.fn.rows.stored.keys;
}

abbrev pub decreases-loop-first : goal.decreases-loop-first
decreases-loop-first l = length l.rows.stored.keys
