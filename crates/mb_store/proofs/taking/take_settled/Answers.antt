use Rattle.mb_store.proofs.Common.{ap, Cell, IfOk, List, subst, TableName, told_at, [], ◌∙◌, ◌≡◌}
use Rattle.mb_store.proofs.GatheringLemmas.{cut_told, plain, settled_with}
use Rattle.mb_store.proofs.taking.take_settled.Goals as goal

pub returns-in-Ok-clause-rows : goal.returns-in-Ok-clause-rows
returns-in-Ok-clause-rows c = subst (λ (rows : List (List Cell)). IfOk c.into_rows.result (λ all. all.items ≡ rows))
    (c.take.ensures.taken ∙ ap (λ (f : TableName → List (List Cell)). f c.args.table) (plain c.settle.new.tables c.take.new.tables c.settle.new.gathered c.in-Ok.ensures.ok (told_at c.args.tables.now c.args.gathered.now) c.in-Ok.ensures.told)) c.into_rows.ensures

pub returns-in-Ok-clause-told : goal.returns-in-Ok-clause-told
returns-in-Ok-clause-told c = settled_with c.settle.new.tables c.take.new.tables c.settle.new.gathered c.in-Ok.ensures.ok (told_at c.args.tables.now c.args.gathered.now) c.in-Ok.ensures.told c.args.table [] c.take.ensures.left

pub returns-in-Err-clause-told : goal.returns-in-Err-clause-told
returns-in-Err-clause-told c = cut_told c.settle.new.tables c.take-in-Err.new.tables c.settle.new.gathered c.none.result (told_at c.args.tables.now c.args.gathered.now) c.args.table c.in-Err.ensures.told (c.in-Err.ensures.table ∙ c.requires.own) c.none.ensures.rows c.take-in-Err.ensures.left
