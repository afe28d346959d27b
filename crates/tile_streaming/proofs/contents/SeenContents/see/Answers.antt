use Rattle.tile_streaming.proofs.Common.{AreFindings, ap, Content, content_from, hollow_content, map, mark_of_cell, subst, sym, [], ◌++◌, ◌∙◌}
use Rattle.tile_streaming.proofs.KnownLemmas.{items_more, marks_more}
use Rattle.tile_streaming.proofs.RowTestLemmas.{ok_both}
use Rattle.tile_streaming.proofs.contents.SeenContents.see.Goals as goal

pub returns : goal.returns
returns c = λ rows sees.
    let page = c.args.page.items in
    let is = c.in_ok-contents.ensures in
    ok_both c.add_all.result
    (λ ids marks. record {
      findings = subst (AreFindings c.args.layout c.args.algorithm (rows ++ page) []) (sym c.add_all.ensures.findings) (c.in_ok-see_contents.ensures rows page (c.deref.ensures.value ∙ is) sees.findings);
      items = ids ∙ (ap (λ l. c.args.self.now.items.items ++ map hollow_content l) is ∙ (ap (λ l. l ++ map hollow_content (map content_from page)) sees.items ∙ items_more rows page));
      marks = marks ∙ (ap (λ l. c.args.self.now.marks.items ++ map (λ (k : Content). mark_of_cell k.cell) l) is ∙ (ap (λ l. l ++ map (λ (k : Content). mark_of_cell k.cell) (map content_from page)) sees.marks ∙ marks_more rows page));
    })
    c.add_all.ensures.ids c.add_all.ensures.marks
