use Rattle.tile_streaming.proofs.Common.{ap, arith, length, nat_le, rules, SeesContents, ◌∙◌, ◌≡◌}
use Rattle.tile_streaming.proofs.PageLemmas.{page_told, whole_page}
use Rattle.tile_streaming.proofs.reading.read_content_page.Goals as goal

pub returns-clause-seen : goal.returns-clause-seen
returns-clause-seen g c =
    page_told (SeesContents c.args.layout c.args.algorithm) (g.S.TileStore.tells c.args.store.now) ((g.S.TileStore.told c.args.store.now).rows c.args.table) c.in_ok-page.page.items c.args.from 512 c.args.seen.now c.see.new.self
    c.in_ok-page.ensures.answer c.in_ok-see.ensures

pub returns-clause-whole : goal.returns-clause-whole
returns-clause-whole g c = λ t.
    let long : c.len.result ≡ length c.in_ok-page.page.items = search rules in
    ap (nat_le 512) long ∙ whole_page ((g.S.TileStore.told c.args.store.now).rows c.args.table) c.in_ok-page.page.items c.args.from 512 (omega arith) (c.in_ok-page.ensures.answer t)
