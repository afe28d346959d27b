use Rattle.mb_metadata.proofs.Common.{ap, arith, entries, len-entries, members_view, no_members, string, view, with_entries, ◌∙◌}
use Rattle.mb_metadata.proofs.JsonLemmas.{entries_end, entries_kept}
use Rattle.mb_metadata.proofs.json_object.text_members.Goals as goal

pub loop-index-preserved : goal.loop-index-preserved
loop-index-preserved c =
    entries_kept string (entries c.args.fields.now) c.loop-index.index (members_view c.loop-index.members.entries) (members_view c.put.new.map.entries) (with_entries string no_members (entries c.args.fields.now)) c.at.result.0.now c.at.result.1.now (view c.in_ok-copy.copy)
    (omega (arith, len-entries c.args.fields.now)) c.at.ensures (c.in_ok-copy.ensures ∙ ap string c.as_str.ensures) c.in_ok-put.ensures.ok c.loop-index.invariant

pub returns : goal.returns
returns c = entries_end string (entries c.args.fields.now) c.loop-index.index (members_view c.loop-index.members.entries) (with_entries string no_members (entries c.args.fields.now)) (omega (arith, len-entries c.args.fields.now)) c.loop-index.invariant
