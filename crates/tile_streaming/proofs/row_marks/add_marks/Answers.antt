use Rattle.tile_streaming.proofs.Common.{ap, cons_option, mark_in, [], ◌++◌, ◌∙◌}
use Rattle.tile_streaming.proofs.RowLemmas.{one_more}
use Rattle.tile_streaming.proofs.row_marks.add_marks.Goals as goal

pub loop-row-preserved : goal.loop-row-preserved
loop-row-preserved c = λ contents knows. one_more (mark_in c.args.layout contents) c.args.marks.now.items c.loop-row.marks.items _ c.args.rows.now c.loop-row.row-index c.row-item.result c.loop-row-test.true c.row-item.is (c.loop-row.invariant contents knows)
    (c.in_ok-add_mark.ensures ∙ ap (λ o. c.loop-row.marks.items ++ cons_option o []) (c.mark_in.ensures contents knows))
