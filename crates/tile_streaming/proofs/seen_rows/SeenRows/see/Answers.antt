use Rattle.tile_streaming.proofs.Common.{ap, filter_map-append, mark_in, marks_in, sym, ◌++◌, ◌∙◌}
use Rattle.tile_streaming.proofs.RowTestLemmas.{ok_then}
use Rattle.tile_streaming.proofs.seen_rows.SeenRows.see.Goals as goal

pub returns : goal.returns
returns c = λ contents rows knows sees. ok_then c.add_marks.result
    (λ h. record {
      findings = c.in_ok-see.ensures contents rows knows sees.findings;
      marks = h ∙ (ap (λ l. l ++ marks_in c.args.layout contents c.args.page.now) sees.marks ∙ sym (filter_map-append (mark_in c.args.layout contents) rows c.args.page.now));
    })
    (c.add_marks.ensures contents knows)
