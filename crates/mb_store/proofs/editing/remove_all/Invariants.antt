use Rattle.mb_store.proofs.Common.{AreStored, into_iter_items, removed, ◌≡◌}
use Rattle.mb_store.proofs.editing.remove_all.Given as goal

-- what the keys that are left leave of what there is, is what all leave of all
abbrev pub invariant-loop-key : goal.invariant-loop-key
invariant-loop-key l = record {
  stored : AreStored l.table l.rows;
  left : removed (into_iter_items l.key-iterator) l.start l.rows.stored.keys ≡ removed l.fn.keys.items l.start l.initial.rows.stored.keys;
}
