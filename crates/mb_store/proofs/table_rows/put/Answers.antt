use Rattle.mb_store.proofs.Common.{arith, length}
use Rattle.mb_store.proofs.StoredLemmas.{add_count, add_stored}
use Rattle.mb_store.proofs.table_rows.put.Goals as goal

pub returns-in-Ok-clause-stored : goal.returns-in-Ok-clause-stored
returns-in-Ok-clause-stored c = add_stored c.args.table c.args.rows.now (record { stored = c.insert.new.self; next = c.max-rows.result }) c.args.row.0 c.args.row.1 c.requires.wide c.requires.stored
    c.in-Ok.ensures.keys
    (add_count (length c.insert.new.self.keys) (length c.args.rows.now.stored.keys) c.in-Ok.field-0 (omega (arith, c.len.ensures.small, c.len.ensures.len)) c.in-Ok.ensures.len)
    (omega (arith, c.max-rows.ensures)) (omega (arith, c.max-rows.ensures, c.requires.first))
