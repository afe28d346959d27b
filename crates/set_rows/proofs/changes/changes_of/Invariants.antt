use Rattle.mb_store.specs.Committing.{AreOfTables}
use Rattle.set_rows.proofs.changes.changes_of.Given as goal

abbrev pub invariant-loop : goal.invariant-loop
invariant-loop l = AreOfTables l.tables l.changes
