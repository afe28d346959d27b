use Rattle.mb_sqlite.proofs.Common.{arith, making_order, refl, slice_get-get_or, Tiles, ◌∙◌}
use Rattle.mb_sqlite.proofs.KeepingLemmas.{goes_on, goes_yet}
use Rattle.mb_sqlite.proofs.PassingLemmas.{passed_next, passed_none}
use Rattle.mb_sqlite.proofs.making.make_missing.Goals as goal

pub loop-table-init : goal.loop-table-init
loop-table-init g c =
    let old = c.args.transaction.now.conn.now in
    (refl, goes_yet g.S.Store old, λ clean. passed_none g.S.Store c.args.layout old)

pub loop-table-preserved : goal.loop-table-preserved
loop-table-preserved g c =
    let old = c.args.transaction.now.conn.now in
    let mid = c.loop-table.transaction.conn.now in
    let new = c.make_table.new.transaction.conn.now in (
      c.make_table.ensures.same_reference ∙ c.loop-table.invariant.0,
      goes_on g.S.Store old mid new _ c.loop-table.invariant.1 c.in_ok-is_made.ensures.kept,
      λ clean. passed_next g.S.Store c.args.layout making_order c.loop-table.table-index _ c.loop-table.made c.in_ok-is_made.is_made old mid new (slice_get-get_or making_order c.loop-table.table-index Tiles c.loop-table-test.true) (c.loop-table.invariant.2 (omega (arith, clean, c.make_table.ensures.kept.survives.clean))) (c.in_ok-is_made.ensures.passed clean),
    )
