use Rattle.mb_store.proofs.Common.{told_of}
use Rattle.mb_store.proofs.HeldLemmas.{held_taken}
use Rattle.mb_store.proofs.mem_store.MemStore.take_rows.Goals as goal

pub invariant_of-self-clause-kept : goal.invariant_of-self-clause-kept
unfolding told_of
invariant_of-self-clause-kept c =
    held_taken c.args.self.now.descriptions.items c.args.self.now.tables c.take.new.tables c.args.self.now.gathered c.take.new.gathered c.args.self.now.kept c.take.ensures.stored c.take.ensures.gathered c.args.table c.take.ensures.told
