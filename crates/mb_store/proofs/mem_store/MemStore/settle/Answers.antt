use Rattle.mb_store.proofs.Common.{told_of}
use Rattle.mb_store.proofs.HeldLemmas.{plain_settled}
use Rattle.mb_store.proofs.mem_store.MemStore.settle.Goals as goal

pub returns-clause-plain : goal.returns-clause-plain
unfolding told_of
returns-clause-plain c = plain_settled c.settle.result c.args.self.now.descriptions.items c.settle.new.tables c.settle.new.gathered c.settle.ensures.ok
