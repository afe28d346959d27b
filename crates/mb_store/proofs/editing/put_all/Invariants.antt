use Rattle.mb_store.proofs.Common.{AreBeingAdded}
use Rattle.mb_store.proofs.editing.put_all.Given as goal

abbrev pub invariant-loop-change : goal.invariant-loop-change
invariant-loop-change l = AreBeingAdded l.table l.changes l.change-index l.initial.rows.next l.initial.rows.stored.keys l.rows
