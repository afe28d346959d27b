use Rattle.tile_streaming.proofs.Common.{ap, arith, Cell, drop, length, List, nat_le, rules, SeesRows, subst, take, tile_table, ◌++◌, ◌∙◌, ◌≡◌}
use Rattle.tile_streaming.proofs.PageLemmas.{page_told, whole_page}
use Rattle.tile_streaming.proofs.reading.read_page.Goals as goal

pub returns-clause-seen : goal.returns-clause-seen
returns-clause-seen g c = λ contents knows.
    let told = g.S.TileStore.told c.args.store.now in
    page_told (SeesRows c.args.layout c.args.algorithm contents) (g.S.TileStore.tells c.args.store.now) (told.rows (tile_table c.args.layout)) c.in_ok-page.page.items c.args.from 512 c.args.seen.now c.see.new.self
    (λ t. c.in_ok-page.ensures.answer t ∙ ap (λ table. take 512 (drop c.args.from (told.rows table))) c.tile_table.ensures)
    (λ rows sees. subst (λ (l : List (List Cell)). SeesRows c.args.layout c.args.algorithm contents (rows ++ l) c.see.new.self) c.deref.ensures.value (c.in_ok-see.ensures contents rows knows sees))

pub returns-clause-whole : goal.returns-clause-whole
returns-clause-whole g c = λ t.
    let told = g.S.TileStore.told c.args.store.now in
    let long : c.len.result ≡ length c.in_ok-page.page.items = search rules in
    ap (nat_le 512) long ∙ whole_page (told.rows (tile_table c.args.layout)) c.in_ok-page.page.items c.args.from 512 (omega arith) (c.in_ok-page.ensures.answer t ∙ ap (λ table. take 512 (drop c.args.from (told.rows table))) c.tile_table.ensures)
