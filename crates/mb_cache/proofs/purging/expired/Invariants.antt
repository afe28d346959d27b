use Rattle.mb_cache.proofs.Common.{is_expired_entry, take_while, ◌++◌, ◌≡◌}
use Rattle.mb_cache.proofs.purging.expired.Given as goal

-- the entries so far, and those that are still to come
abbrev pub invariant-loop-entry : goal.invariant-loop-entry
invariant-loop-entry l = l.expired.items ++ take_while (is_expired_entry l.now) l.entry-iterator ≡ take_while (is_expired_entry l.now) l.entries.keys
