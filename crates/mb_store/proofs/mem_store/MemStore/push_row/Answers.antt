use Rattle.mb_store.proofs.Common.{told_of, ◌∙◌}
use Rattle.mb_store.proofs.HeldLemmas.{held_pushed}
use Rattle.mb_store.proofs.mem_store.MemStore.push_row.Goals as goal

pub invariant_of-self-clause-kept : goal.invariant_of-self-clause-kept
unfolding told_of
invariant_of-self-clause-kept c =
    held_pushed c.args.self.now.descriptions.items c.args.self.now.tables c.push.new.tables c.args.self.now.gathered c.push.new.gathered c.args.self.now.kept c.push.ensures.stored c.push.ensures.gathered
    c.push.result c.args.table c.of-keyed.result.now c.args.row (c.of-keyed.ensures ∙ c.args.self.now.keys c.args.table)
    c.push.ensures.duplicate c.push.ensures.ok c.push.ensures.err c.push.ensures.count c.requires.described c.requires.wide
