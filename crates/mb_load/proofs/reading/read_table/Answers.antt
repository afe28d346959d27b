use Rattle.mb_load.proofs.Common.{ap, arith, Cell, counted_then, drop, IfOk, List, subst, Tables, take, ◌∙◌, ◌≡◌}
use Rattle.std.proofs.lemmas.List.{take_all}
use Rattle.mb_load.proofs.reading.read_table.Goals as goal

pub returns-clause-answer : goal.returns-clause-answer
returns-clause-answer g c tells =
    let all = (g.S.TileStore.told c.args.store.now).rows c.args.table in
    let count = c.in_ok-count.count in
    let Are : List (List Cell) → Type 0 = λ rows. IfOk c.rows.result (λ page. page.items ≡ rows) in
    subst Are
    (ap (λ (t : Tables). take count (drop 0 (t.rows c.args.table))) c.in_ok-count.ensures.kept.told
    ∙ take_all count all (omega (arith, c.in_ok-count.ensures.answer tells)))
    (c.rows.ensures.answer (c.in_ok-count.ensures.kept.tells ∙ tells))

pub returns-clause-fault : goal.returns-clause-fault
returns-clause-fault g c = counted_then _ _ _ _ _ _ c.in_ok-count.ensures.fault.still c.rows.ensures.fault
