use Rattle.tile_streaming.proofs.Common.{arith, refl, SeesRows, tile_table, [], ◌*◌}
use Rattle.tile_streaming.proofs.PageLemmas.{last_told, pages_whole}
use Rattle.tile_streaming.proofs.reading.read_rows.Goals as goal

pub loop-page-init : goal.loop-page-init
loop-page-init g c = record {
  kept = record { told = refl; tells = refl; faults = omega arith; steady = λ s. s; calm = λ s. refl };
  still = refl;
  seen = λ contents knows are. record { rows = []; are_told = λ t. refl; sees = c.behind-seen.ensures c.args.layout c.args.algorithm contents are };
}

pub returns-then-not-whole-clause-seen : goal.returns-then-not-whole-clause-seen
returns-then-not-whole-clause-seen g c = λ contents knows are.
    let i = c.loop-page.invariant in
    last_told (SeesRows c.args.layout c.args.algorithm contents) (tile_table c.args.layout) (g.S.TileStore.tells c.args.store.now) (g.S.TileStore.tells c.loop-page.store) (g.S.TileStore.told c.args.store.now) (g.S.TileStore.told c.loop-page.store) (c.loop-page.page * 512) c.in_ok-whole.whole c.loop-page.seen c.read_page.new.seen
    i.kept.tells i.kept.told (i.seen contents knows are) (c.in_ok-whole.ensures.seen contents knows) c.in_ok-whole.ensures.whole c.if-not-whole.true

pub returns-clause-seen : goal.returns-clause-seen
returns-clause-seen g c = λ contents knows are.
    let store = c.args.store.now in
    pages_whole (SeesRows c.args.layout c.args.algorithm contents) (g.S.TileStore.tells store) ((g.S.TileStore.told store).rows (tile_table c.args.layout)) (c.loop-page.page * 512) c.loop-page.seen
    (λ t. omega (arith, (g.met.S.TileStore.sound store t).counts (tile_table c.args.layout), c.loop-page-test.false)) (c.loop-page.invariant.seen contents knows are)
