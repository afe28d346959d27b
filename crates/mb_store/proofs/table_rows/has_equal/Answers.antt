use Rattle.mb_store.proofs.Common.{ap, is_some, sym, ◌∙◌}
use Rattle.mb_store.proofs.PushLemmas.{equal_found}
use Rattle.mb_store.proofs.StoredLemmas.{copied_some}
use Rattle.mb_store.proofs.table_rows.has_equal.Goals as goal

pub returns : goal.returns
returns c = c.is_some.ensures ∙ (sym (copied_some c.first_early.result) ∙ (ap is_some c.first_early.ensures ∙ sym (equal_found c.args.table c.args.rows.now c.requires.stored c.args.row.now.0 c.requires.wide)))
