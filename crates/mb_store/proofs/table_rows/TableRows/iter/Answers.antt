use Rattle.mb_store.proofs.StoredLemmas.{stored_order}
use Rattle.mb_store.proofs.table_rows.TableRows.iter.Goals as goal

pub returns-clause-order : goal.returns-clause-order
returns-clause-order c table stored = stored_order table c.args.self.now c.iter.ensures.ordered stored
