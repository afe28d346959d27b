use Rattle.mb_cache.proofs.Common.{AreDeletes, AreOfTables, is_table, List, TableDesc, take, TileCache, true, ◌≡◌}
use Rattle.mb_cache.proofs.evicting.deletes_of.Given as goal

abbrev pub invariant-loop-entry : goal.invariant-loop-entry
invariant-loop-entry l = record {
  deletes : AreDeletes (take l.entry-index l.entries) l.changes;
  tables : (ds : List TableDesc) → is_table ds TileCache ≡ true → AreOfTables ds l.changes;
}
