use Rattle.mb_metadata.proofs.Common.{arith, as_it_is, entries, len-entries, members_view, no_members, view, with_entries, ◌∙◌}
use Rattle.mb_metadata.proofs.JsonLemmas.{entries_end, entries_kept}
use Rattle.mb_metadata.proofs.json_object.json_members.Goals as goal

pub loop-index-preserved : goal.loop-index-preserved
loop-index-preserved c =
    entries_kept as_it_is (entries c.args.fields.now) c.loop-index.index (members_view c.loop-index.members.entries) (members_view c.put.new.map.entries) (with_entries as_it_is no_members (entries c.args.fields.now)) c.at.result.0.now c.at.result.1.now (view c.in_ok-copy.copy)
    (omega (arith, len-entries c.args.fields.now)) c.at.ensures (c.in_ok-copy.ensures.cases ∙ c.as_value.ensures) c.in_ok-put.ensures.ok c.loop-index.invariant

pub returns : goal.returns
returns c = entries_end as_it_is (entries c.args.fields.now) c.loop-index.index (members_view c.loop-index.members.entries) (with_entries as_it_is no_members (entries c.args.fields.now)) (omega (arith, len-entries c.args.fields.now)) c.loop-index.invariant
