use Rattle.mb_store.proofs.Common.{Cell, IfOk, List, rows_at, subst, sym, [], ◌∙◌, ◌≡◌}
use Rattle.mb_store.proofs.GatheredLemmas.{told_other}
use Rattle.mb_store.proofs.GatheringLemmas.{beside_with}
use Rattle.mb_store.proofs.WithRows.{with_rows-own}
use Rattle.mb_store.proofs.taking.take_beside.Goals as goal

pub returns-clause-rows : goal.returns-clause-rows
returns-clause-rows c = subst (λ (rows : List (List Cell)). IfOk c.into_rows.result (λ all. all.items ≡ rows)) (c.take.ensures.taken ∙ sym (told_other c.args.tables.now c.args.gathered.now c.args.table c.requires.other)) c.into_rows.ensures

pub returns-clause-told : goal.returns-clause-told
returns-clause-told c = beside_with c.args.tables.now c.take.new.tables c.args.gathered.now c.args.table c.requires.other c.take.ensures.others [] (c.take.ensures.left c.args.table ∙ with_rows-own (rows_at c.args.tables.now) c.args.table [])
