use Rattle.mb_store.proofs.Common.{ap, arith, insert_key, length, stored_cmp, ◌+◌, ◌∙◌}
use Rattle.mb_store.proofs.StoredLemmas.{add_count, add_placed, add_stored}
use Rattle.mb_store.proofs.table_rows.add.Goals as goal

pub returns-clause-placed : goal.returns-clause-placed
returns-clause-placed c = add_placed c.args.table c.args.rows.now (record { stored = c.insert.new.self; next = c.args.rows.now.next + 1 }) c.args.row.0 c.requires.wide c.requires.stored
    (c.in_ok-insert.ensures.keys ∙ ap (insert_key stored_cmp c.args.rows.now.stored.keys) c.set_arrival.ensures)

pub returns-clause-stored : goal.returns-clause-stored
returns-clause-stored c = add_stored c.args.table c.args.rows.now (record { stored = c.insert.new.self; next = c.args.rows.now.next + 1 }) c.args.row.0 c.args.rows.now.next c.requires.wide c.requires.stored
    (c.in_ok-insert.ensures.keys ∙ ap (insert_key stored_cmp c.args.rows.now.stored.keys) c.set_arrival.ensures)
    (add_count (length c.insert.new.self.keys) (length c.args.rows.now.stored.keys) c.in_ok-insert.field-0 (omega (arith, c.len.ensures.small, c.len.ensures.len)) c.in_ok-insert.ensures.len) (omega arith) (omega arith)
