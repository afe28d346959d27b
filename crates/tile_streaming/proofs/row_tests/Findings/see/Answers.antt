use Rattle.tile_streaming.proofs.Common.{ap, Cell, first_refused, List, missing_reference, option_or, rows_kept, tile_bad, wrong_tile_hash, ◌∙◌}
use Rattle.tile_streaming.proofs.KnownLemmas.{bad_known, missing_known}
use Rattle.tile_streaming.proofs.RowTestLemmas.{findings_more, ok_then}
use Rattle.tile_streaming.proofs.row_tests.Findings.see.Goals as goal

pub returns : goal.returns
returns c = λ contents rows knows are.
    let layout = c.args.layout in
    let page = c.args.page.now in
    let known = c.args.known.now in
    let kept : List (List Cell) = rows_kept known.list.items.items in
    ok_then c.see_hash.result
    (λ h. findings_more layout c.args.algorithm contents rows page c.args.self.now c.see_hash.new.self
    (c.see_hash.ensures.kinds ∙ (c.in_ok-see_missing.ensures.kinds ∙ (c.in_ok-see_bad.ensures.kinds ∙ c.see_kinds.ensures.kinds)))
    (c.see_hash.ensures.bad ∙ (c.in_ok-see_missing.ensures.bad ∙ (c.in_ok-see_bad.ensures.bad ∙ (ap (λ o. option_or o (tile_bad layout kept page)) c.see_kinds.ensures.bad ∙ ap (option_or c.args.self.now.bad) (bad_known layout contents known knows page)))))
    (c.see_hash.ensures.missing ∙ (c.in_ok-see_missing.ensures.missing ∙ (ap (λ o. option_or o (first_refused (missing_reference layout kept) page)) (c.in_ok-see_bad.ensures.missing ∙ c.see_kinds.ensures.missing) ∙ ap (option_or c.args.self.now.missing) (missing_known layout contents known knows page))))
    (h ∙ ap (λ o. option_or o (first_refused (wrong_tile_hash layout c.args.algorithm) page)) (c.in_ok-see_missing.ensures.hash ∙ (c.in_ok-see_bad.ensures.hash ∙ c.see_kinds.ensures.hash)))
    are)
    c.see_hash.ensures.hash
