use Rattle.mb_store.proofs.Common.{Cell, clash, List, list_any, RefusesTwice, subst, TableName, told_at, ◌&&◌}
use Rattle.mb_store.proofs.GatheringLemmas.{plain, settled_count, settled_err, settled_ok}
use Rattle.mb_store.proofs.gathering.push_settled.Goals as goal

pub returns-in-Ok-clause-duplicate : goal.returns-in-Ok-clause-duplicate
returns-in-Ok-clause-duplicate c = subst (λ (f : TableName → List (List Cell)). RefusesTwice c.args.table (c.args.keyed && list_any (clash c.args.table c.args.row) (f c.args.table)) c.push.result)
    (plain c.settle.new.tables c.push.new.tables c.settle.new.gathered c.in-Ok.ensures.ok (told_at c.args.tables.now c.args.gathered.now) c.in-Ok.ensures.told) c.push.ensures.duplicate

pub returns-in-Ok-clause-ok : goal.returns-in-Ok-clause-ok
returns-in-Ok-clause-ok c = settled_ok c.settle.new.tables c.push.new.tables c.settle.new.gathered c.in-Ok.ensures.ok (told_at c.args.tables.now c.args.gathered.now) c.in-Ok.ensures.told c.push.result c.args.table c.args.row c.push.ensures.ok

pub returns-in-Ok-clause-err : goal.returns-in-Ok-clause-err
returns-in-Ok-clause-err c = settled_err c.settle.new.tables c.push.new.tables c.settle.new.gathered c.in-Ok.ensures.ok (told_at c.args.tables.now c.args.gathered.now) c.in-Ok.ensures.told c.push.result c.push.ensures.err

pub returns-in-Ok-clause-count : goal.returns-in-Ok-clause-count
returns-in-Ok-clause-count c = settled_count c.settle.new.tables c.push.new.tables c.settle.new.gathered c.in-Ok.ensures.ok (told_at c.args.tables.now c.args.gathered.now) c.in-Ok.ensures.told c.push.result c.args.table c.push.ensures.stored
