use Rattle.mb_tables.proofs.Common.{ap, Cell, List, Null, slice_get, sym, unwrap_or, ◌∙◌}
use Rattle.mb_tables.proofs.RowLemmas.{cell_at_get}
use Rattle.mb_tables.proofs.cell_kinds.cell_at.Goals as goal

pub returns : goal.returns
returns c = c.cell_in.ensures ∙ (ap (λ (r : List Cell). unwrap_or (slice_get r c.args.index) Null) c.cells.ensures ∙ sym (cell_at_get c.args.index c.args.row.now))
