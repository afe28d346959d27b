use Rattle.mb_store.proofs.Common.{drop, keys_of, ◌++◌, ◌≡◌}
use Rattle.mb_store.proofs.editing.keys_of.Given as goal

-- the keys so far, and those of the changes that are left
abbrev pub invariant-loop-change : goal.invariant-loop-change
invariant-loop-change l = l.keys.items ++ keys_of l.table (drop l.change-index l.changes) ≡ keys_of l.table l.changes
