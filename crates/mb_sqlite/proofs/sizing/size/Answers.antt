use Rattle.mb_sqlite.proofs.Common.{arith, making_order, refl, slice_get-get_or, Tiles, ◌∙◌}
use Rattle.mb_sqlite.proofs.KeepingLemmas.{goes_on, goes_yet}
use Rattle.mb_sqlite.proofs.SizingLemmas.{live_size_is, next_table, no_tables}
use Rattle.mb_sqlite.proofs.sizing.size.Goals as goal

pub loop-table-init : goal.loop-table-init
loop-table-init g c =
    let old = c.args.transaction.now.conn.now in
    (refl, goes_yet g.S.Store old, λ clean. no_tables g.S.Store c.args.layout old)

pub loop-table-preserved : goal.loop-table-preserved
loop-table-preserved g c =
    let old = c.args.transaction.now.conn.now in
    let mid = c.loop-table.transaction.conn.now in
    let new = c.with_layout_table.new.transaction.conn.now in (
      c.with_layout_table.ensures.same_reference ∙ c.loop-table.invariant.0,
      goes_on g.S.Store old mid new _ c.loop-table.invariant.1 c.in_ok-next.ensures.kept,
      λ clean. next_table g.S.Store c.args.layout _ c.loop-table.table-index c.loop-table.size c.in_ok-next.next old mid new (slice_get-get_or making_order c.loop-table.table-index Tiles c.loop-table-test.true)
          (c.loop-table.invariant.2 (omega (arith, clean, c.with_layout_table.ensures.kept.survives.clean))) (c.in_ok-next.ensures.table clean),
    )

pub returns-clause-size : goal.returns-clause-size
returns-clause-size g c clean = live_size_is g.S.Store c.args.layout c.loop-table.table-index c.loop-table.size c.args.transaction.now.conn.now c.loop-table.transaction.conn.now (omega (arith, c.loop-table-test.false)) (c.loop-table.invariant.2 clean)
