use Rattle.mb_loaded.proofs.ChangeSteps.{id_cells, keyed_row}
use Rattle.mb_loaded.proofs.changes.add_keyed.Goals as goal

pub put-requires-clause-own : goal.put-requires-clause-own
put-requires-clause-own c = keyed_row c.args.table c.args.key c.args.content.now.id c.args.content.now.cell c.in_ok-row-in-Put.row c.requires.keyed (id_cells c.args.content.now.id c.args.key c.requires.id) c.in_ok-row-in-Put.ensures
