use Rattle.std.proofs.lemmas.Result.{IfOk-weaker}
use Rattle.mb_file.proofs.ColumnLemmas.{columns_made, rowids_made}
use Rattle.mb_file.proofs.columns.columns_by.Goals as goal

pub returns-clause-columns : goal.returns-clause-columns
returns-clause-columns c =
    IfOk-weaker c.columns_of.result _ _ (λ columns are. columns_made c.args.table c.args.text.now c.in_ok-made.made columns c.in_ok-made.ensures.made are) c.columns_of.ensures

pub returns-clause-rowids : goal.returns-clause-rowids
returns-clause-rowids c =
    IfOk-weaker c.columns_of.result _ _ (λ columns are. rowids_made c.args.table c.args.text.now c.in_ok-made.made columns c.in_ok-made.ensures.rowids are) c.columns_of.ensures
