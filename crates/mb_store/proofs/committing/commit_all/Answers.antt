use Rattle.mb_store.proofs.Common.{at}
use Rattle.mb_store.proofs.EditLemmas.{committed, undone}
use Rattle.mb_store.proofs.committing.commit_all.Goals as goal

pub returns-in-Ok-clause-ok : goal.returns-in-Ok-clause-ok
returns-in-Ok-clause-ok c table = committed table c.args.changes.now (at c.args.tables.now table) (at c.put_tables.new.tables table) (at c.remove_tables.new.tables table) (at c.in_ok-edits.edits table).start (c.in_ok-edits.ensures.start table)
    (at c.in_ok-edits.edits table).keys.items (c.in_ok-edits.ensures.keys table) (c.put_tables.ensures.stored table) (c.in-Ok.ensures.ok table) (c.remove_tables.ensures.rows table)

pub returns-in-Err-clause-err : goal.returns-in-Err-clause-err
returns-in-Err-clause-err c table = undone table c.args.changes.now (at c.args.tables.now table) (at c.put_tables.new.tables table) (at c.undo_tables.new.tables table) (at c.in_ok-edits.edits table).start (c.in_ok-edits.ensures.start table)
    (c.put_tables.ensures.early table) (c.undo_tables.ensures.rows table)
