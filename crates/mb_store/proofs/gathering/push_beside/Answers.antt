use Rattle.mb_store.proofs.Common.{Cell, clash, List, list_any, RefusesTwice, subst, sym, ◌&&◌}
use Rattle.mb_store.proofs.GatheredLemmas.{told_other}
use Rattle.mb_store.proofs.GatheringLemmas.{beside_count, beside_err, beside_ok}
use Rattle.mb_store.proofs.gathering.push_beside.Goals as goal

pub returns-clause-duplicate : goal.returns-clause-duplicate
returns-clause-duplicate c = subst (λ (rows : List (List Cell)). RefusesTwice c.args.table (c.args.keyed && list_any (clash c.args.table c.args.row) rows) c.push.result) (sym (told_other c.args.tables.now c.args.gathered.now c.args.table c.requires.other)) c.push.ensures.duplicate

pub returns-clause-ok : goal.returns-clause-ok
returns-clause-ok c = beside_ok c.args.tables.now c.push.new.tables c.args.gathered.now c.args.table c.requires.other c.push.ensures.others c.push.result c.args.row c.push.ensures.ok

pub returns-clause-err : goal.returns-clause-err
returns-clause-err c = beside_err c.args.tables.now c.push.new.tables c.args.gathered.now c.args.table c.requires.other c.push.ensures.others c.push.result c.push.ensures.err

pub returns-clause-count : goal.returns-clause-count
returns-clause-count c = beside_count c.args.tables.now c.push.new.tables c.args.gathered.now c.args.table c.requires.other c.push.ensures.others c.push.result c.push.ensures.stored
