use Rattle.mb_store.proofs.Common.{None, refl}
use Rattle.mb_store.proofs.ChangeLemmas.{AreChanges-after}
use Rattle.mb_store.proofs.changes.Changes.delete.Goals as goal

pub invariant_of-self : goal.invariant_of-self
invariant_of-self c = record {
  sound = AreChanges-after c.add.result _ _ (record { table = c.args.table; key = c.args.key; row = None }) c.add.ensures.ok c.add.ensures.err refl c.self.invariant.sound;
  index = c.add.ensures.index;
}
