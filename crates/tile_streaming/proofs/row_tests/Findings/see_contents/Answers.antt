use Rattle.tile_streaming.proofs.Common.{ap, first_refused, option_or, wrong_id, ◌∙◌}
use Rattle.tile_streaming.proofs.RowTestLemmas.{contents_more, ok_then}
use Rattle.tile_streaming.proofs.row_tests.Findings.see_contents.Goals as goal

pub returns : goal.returns
returns c = λ rows page is are.
    let items = c.args.contents.now in
    ok_then c.see_ids.result
    (λ h. contents_more c.args.layout c.args.algorithm rows page items c.args.self.now c.see_ids.new.self is
    (c.see_ids.ensures.kinds ∙ c.see_id_kinds.ensures.kinds)
    (c.see_ids.ensures.bad ∙ c.see_id_kinds.ensures.bad)
    (c.see_ids.ensures.missing ∙ c.see_id_kinds.ensures.missing)
    (h ∙ ap (λ o. option_or o (first_refused (wrong_id c.args.layout c.args.algorithm) items)) c.see_id_kinds.ensures.hash)
    are)
    c.see_ids.ensures.hash
