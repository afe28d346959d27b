use Rattle.mb_store.proofs.Common.{and_from, eq-eqb, Some}
use Rattle.mb_store.proofs.ChangeLemmas.{AreChanges-after}
use Rattle.mb_store.proofs.changes.Changes.put.Goals as goal

pub invariant_of-self : goal.invariant_of-self
invariant_of-self c = record {
  sound = AreChanges-after c.add.result _ _ (record { table = c.args.table; key = c.args.key; row = Some c.args.row }) c.add.ensures.ok c.add.ensures.err (and_from _ _ c.requires.own (eq-eqb _ _ c.requires.wide)) c.self.invariant.sound;
  index = c.add.ensures.index;
}
