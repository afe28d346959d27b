-- the rows at their places with those that are left
use Rattle.mb_store.proofs.Common.{all_rows, AreFirst, AreStored, length, ◌≡◌}
use Rattle.mb_store.proofs.table_rows.put_all.Given as goal

abbrev pub invariant-loop-row : goal.invariant-loop-row
invariant-loop-row l = record {
  told : all_rows l.rows.stored.keys l.list.items ≡ all_rows l.fn.rows.stored.keys l.fn.list.items;
  first : AreFirst l.table l.list.items;
  stored : AreStored l.table l.rows;
}

abbrev pub decreases-loop-row : goal.decreases-loop-row
decreases-loop-row l = length l.list.items
