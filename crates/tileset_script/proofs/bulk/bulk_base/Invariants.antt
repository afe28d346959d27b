-- the rows of the ids so far
use Rattle.tileset_script.proofs.Common.{bulk_tables, NeverFails, told_of, ◌≡◌}
use Rattle.tileset_script.proofs.bulk.bulk_base.Given as goal

abbrev pub invariant-loop-id : goal.invariant-loop-id
invariant-loop-id l = record {
  told : told_of l.base.store ≡ bulk_tables l.id l.repeat;
  unfailing : NeverFails l.base.store;
}
