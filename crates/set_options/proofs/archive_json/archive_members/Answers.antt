use Rattle.set_options.proofs.Common.{arith, codes, entries, len-entries, members_in, members_view, None, text_at, text_cell, with_entry, [], ◌≡◌}
use Rattle.set_options.proofs.FoldLemmas.{fold_at, fold_end}
use Rattle.set_options.proofs.StepLemmas.{name_step}
use Rattle.set_options.proofs.archive_json.archive_members.Goals as goal

pub loop-index-preserved : goal.loop-index-preserved
loop-index-preserved g c =
    let names = g.N.HasNames.names c.args.names.now in
    let old = members_view c.loop-index.members.entries in
    let new = members_view c.put_name.new.members.entries in
    fold_at with_entry (members_in (text_at names (codes "json"))) (entries names) c.loop-index.index ([], None) old new (λ e. (e.0 ≡ c.name_at.result.0.now) × (text_cell e.1 ≡ c.name_at.result.1.now))
    (omega (arith, len-entries names)) c.name_at.ensures (name_step old new c.name_at.result.0.now c.name_at.result.1.now c.in_ok-put_name.ensures) c.loop-index.invariant

pub returns : goal.returns
returns g c =
    let names = g.N.HasNames.names c.args.names.now in
    fold_end with_entry (members_in (text_at names (codes "json"))) (entries names) c.loop-index.index (members_view c.loop-index.members.entries) (omega (arith, len-entries names)) c.loop-index.invariant
