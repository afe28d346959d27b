use Rattle.mb_store.proofs.Common.{ap, at, Cell, List, own_key, subst, sym, TableName, told_at, [], ◌∙◌, ◌≡◌}
use Rattle.mb_store.proofs.GatheringLemmas.{gathered_count, gathered_duplicate, gathered_err, gathered_ok}
use Rattle.mb_store.proofs.gathering.push.Goals as goal
use Rattle.mb_store.proofs.gathering.push.Goals.{After-add}

own : (c : After-add) → c.opens.new.gathered.table ≡ c.args.table
own c = c.opens.ensures.table c.if-opens.true

empty : (c : After-add) → (at c.args.tables.now c.args.table).stored.keys ≡ []
empty c = subst (λ (t : TableName). (at c.args.tables.now t).stored.keys ≡ []) (own c) (c.opens.ensures.gathered.alone (c.opens.ensures.open c.if-opens.true))

pub returns-then-opens-clause-duplicate : goal.returns-then-opens-clause-duplicate
returns-then-opens-clause-duplicate c =
    let d = (goal.at.returns-then-opens-clause-duplicate c).After-add in
    gathered_duplicate c.args.tables.now c.opens.new.gathered c.add.new.self (told_at c.args.tables.now c.args.gathered.now) c.args.table c.args.row c.opens.ensures.told (own d) (empty d) c.requires.wide c.opens.ensures.gathered.rows c.add.result c.args.keyed c.in-Some.numbers c.if-keyed.true
    (ap (λ (row : List Cell). own_key row) (sym c.cells.ensures) ∙ c.in-Some.ensures) (c.opens.ensures.gathered.seen (c.opens.ensures.open c.if-opens.true)) c.add.ensures.duplicate

pub returns-then-opens-clause-ok : goal.returns-then-opens-clause-ok
returns-then-opens-clause-ok c =
    let d = (goal.at.returns-then-opens-clause-ok c).After-add in
    gathered_ok c.args.tables.now c.opens.new.gathered c.add.new.self (told_at c.args.tables.now c.args.gathered.now) c.args.table c.args.row c.opens.ensures.told (own d) (empty d) c.requires.wide c.opens.ensures.gathered.rows c.add.result c.add.ensures.table c.add.ensures.duplicate c.add.ensures.ok

pub returns-then-opens-clause-err : goal.returns-then-opens-clause-err
returns-then-opens-clause-err c =
    let d = (goal.at.returns-then-opens-clause-err c).After-add in
    gathered_err c.args.tables.now c.opens.new.gathered c.add.new.self (told_at c.args.tables.now c.args.gathered.now) c.args.table c.args.row c.opens.ensures.told (own d) (empty d) c.requires.wide c.opens.ensures.gathered.rows c.add.result c.add.ensures.table c.add.ensures.err

pub returns-then-opens-clause-count : goal.returns-then-opens-clause-count
returns-then-opens-clause-count c =
    let d = (goal.at.returns-then-opens-clause-count c).After-add in
    gathered_count c.args.tables.now c.opens.new.gathered c.add.new.self (told_at c.args.tables.now c.args.gathered.now) c.args.table c.args.row c.opens.ensures.told (own d) (empty d) c.requires.wide c.opens.ensures.gathered.rows c.add.result c.add.ensures.table c.add.ensures.seen
