use Rattle.tile_streaming.proofs.Common.{arith, refl, SeesContents, [], ◌*◌}
use Rattle.tile_streaming.proofs.PageLemmas.{last_told, pages_whole}
use Rattle.tile_streaming.proofs.reading.read_content_table.Goals as goal

pub loop-page-init : goal.loop-page-init
loop-page-init g c = record {
  kept = record { told = refl; tells = refl; faults = omega arith; steady = λ s. s; calm = λ s. refl };
  still = refl;
  seen = record { rows = []; are_told = λ t. refl; sees = c.none-seen.ensures c.args.layout c.args.algorithm };
}

pub returns-then-not-whole-clause-seen : goal.returns-then-not-whole-clause-seen
returns-then-not-whole-clause-seen g c =
    let i = c.loop-page.invariant in
    last_told (SeesContents c.args.layout c.args.algorithm) c.args.table (g.S.TileStore.tells c.args.store.now) (g.S.TileStore.tells c.loop-page.store) (g.S.TileStore.told c.args.store.now) (g.S.TileStore.told c.loop-page.store) (c.loop-page.page * 512) c.in_ok-whole.whole c.loop-page.seen c.read_content_page.new.seen
    i.kept.tells i.kept.told i.seen c.in_ok-whole.ensures.seen c.in_ok-whole.ensures.whole c.if-not-whole.true

pub returns-clause-seen : goal.returns-clause-seen
returns-clause-seen g c =
    let store = c.args.store.now in
    pages_whole (SeesContents c.args.layout c.args.algorithm) (g.S.TileStore.tells store) ((g.S.TileStore.told store).rows c.args.table) (c.loop-page.page * 512) c.loop-page.seen
    (λ t. omega (arith, (g.met.S.TileStore.sound store t).counts c.args.table, c.loop-page-test.false)) c.loop-page.invariant.seen
