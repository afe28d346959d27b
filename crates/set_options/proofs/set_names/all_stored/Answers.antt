use Rattle.set_options.proofs.Common.{ap, arith, entries, len-entries, map, None, stored_name, [], ◌∙◌}
use Rattle.std.proofs.lemmas.List.{take_all}
use Rattle.set_options.proofs.SetNameLemmas.{mapped_more}
use Rattle.set_options.proofs.set_names.all_stored.Goals as goal

pub loop-index-preserved : goal.loop-index-preserved
loop-index-preserved c =
    let es = entries c.args.set.now.state.metadata in
    c.in_ok-push.ensures.items
    ∙ mapped_more stored_name es c.loop-index.index ([], None) c.loop-index.names.items c.in_ok-stored_at.field-0 (omega (arith, c.loop-index-test.true, c.metadata_count-index-end.ensures, len-entries c.args.set.now.state.metadata)) c.in_ok-stored_at.ensures c.loop-index.invariant

pub returns : goal.returns
returns c =
    let es = entries c.args.set.now.state.metadata in
    c.loop-index.invariant ∙ ap (map stored_name) (take_all c.loop-index.index es (omega (arith, c.loop-index-test.false, c.metadata_count-index-end.ensures, len-entries c.args.set.now.state.metadata)))
