use Rattle.mb_sqlite.proofs.Common.{arith, Changed, refl, ◌∙◌}
use Rattle.mb_sqlite.proofs.KeepingLemmas.{goes_on, goes_yet}
use Rattle.mb_sqlite.proofs.StepLemmas.{Steps-next, Steps-none}
use Rattle.mb_sqlite.proofs.writing.change.Goals as goal

pub loop-at-init : goal.loop-at-init
loop-at-init g c =
    let old = c.args.transaction.now.conn.now in
    (refl, goes_yet g.S.Store old, λ clean. Steps-none (Changed g.S.Store c.args.layout) old)

pub loop-at-preserved : goal.loop-at-preserved
loop-at-preserved g c =
    let old = c.args.transaction.now.conn.now in
    let mid = c.loop-at.transaction.conn.now in
    let new = c.change_one.new.transaction.conn.now in (
      c.change_one.ensures.same_reference ∙ c.loop-at.invariant.0,
      goes_on g.S.Store old mid new _ c.loop-at.invariant.1 c.in_ok-change_one.ensures.kept,
      λ clean. Steps-next (Changed g.S.Store c.args.layout) c.args.changes.now c.loop-at.at _ old mid new c.change_at-table.ensures.change (c.loop-at.invariant.2 (omega (arith, clean, c.change_one.ensures.kept.survives.clean))) (c.in_ok-change_one.ensures.changed clean),
    )
