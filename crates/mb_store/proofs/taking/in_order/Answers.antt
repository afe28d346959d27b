use Rattle.mb_store.proofs.Common.{IsStrictlySortedBy, stored_cmp, subst, TableRows}
use Rattle.mb_store.proofs.GatheredLemmas.{told_order}
use Rattle.mb_store.proofs.taking.in_order.Goals as goal

pub returns : goal.returns
returns c = told_order c.args.tables.now c.args.gathered.now c.args.table (subst (λ (r : TableRows). IsStrictlySortedBy stored_cmp r.stored.keys) c.of.ensures c.iter.ensures.ordered) (c.requires.stored c.args.table) c.requires.gathered.rows
