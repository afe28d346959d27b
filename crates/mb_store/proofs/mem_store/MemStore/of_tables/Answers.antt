use Rattle.mb_store.proofs.Common.{told_of}
use Rattle.mb_store.proofs.GatheredLemmas.{tables_none}
use Rattle.mb_store.proofs.HeldLemmas.{held_none}
use Rattle.mb_store.proofs.mem_store.MemStore.of_tables.Goals as goal

pub invariant_of-result-clause-kept : goal.invariant_of-result-clause-kept
invariant_of-result-clause-kept c = held_none c.args.descriptions.items c.no_rows.result c.none.result c.requires c.no_rows.ensures.rows c.no_rows.ensures.stored c.none.ensures.rows c.none.ensures.closed

pub returns-clause-told : goal.returns-clause-told
unfolding told_of
returns-clause-told c = tables_none c.args.descriptions.items c.no_rows.result c.none.result c.none.ensures.rows c.no_rows.ensures.rows
