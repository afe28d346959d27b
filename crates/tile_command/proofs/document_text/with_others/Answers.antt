use Rattle.tile_command.proofs.Common.{arith, as_it_is, entries, entries_end, entries_kept, len-entries, members_view, view, with_entries, ◌∙◌}
use Rattle.tile_command.proofs.document_text.with_others.Goals as goal

pub loop-index-preserved : goal.loop-index-preserved
loop-index-preserved c =
    entries_kept as_it_is (entries c.args.others.now) c.loop-index.index (members_view c.loop-index.members.entries) (members_view c.put_value.new.members.entries)
    (with_entries as_it_is (members_view c.args.members.entries) (entries c.args.others.now)) c.at.result.0.now c.at.result.1.now (view c.in_ok-copy.copy)
    (omega (arith, len-entries c.args.others.now)) c.at.ensures (c.in_ok-copy.ensures.cases ∙ c.as_value.ensures) c.in_ok-put_value.ensures c.loop-index.invariant

pub returns : goal.returns
returns c =
    entries_end as_it_is (entries c.args.others.now) c.loop-index.index (members_view c.loop-index.members.entries)
    (with_entries as_it_is (members_view c.args.members.entries) (entries c.args.others.now)) (omega (arith, len-entries c.args.others.now)) c.loop-index.invariant
