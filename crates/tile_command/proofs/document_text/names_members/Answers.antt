use Rattle.tile_command.proofs.Common.{arith, entries, fold_at, fold_end, len-entries, members_view, no_members, None, text_cell, view, [], ◌≡◌}
use Rattle.tile_command.proofs.NameLemmas.{stored_step}
use Rattle.tile_command.specs.Document.{with_stored}
use Rattle.tile_command.proofs.document_text.names_members.Goals as goal

pub loop-index-preserved : goal.loop-index-preserved
loop-index-preserved c =
    let names = c.args.set.now.state.metadata in
    let old = members_view c.loop-index.members.entries in
    let new = members_view c.put_value.new.members.entries in
    fold_at with_stored no_members (entries names) c.loop-index.index ([], None) old new (λ e. (e.0 ≡ c.metadata_at.result.0.now) × (text_cell e.1 ≡ c.metadata_at.result.1.now))
    (omega (arith, len-entries names)) c.metadata_at.ensures
    (stored_step old new c.metadata_at.result.0.now c.metadata_at.result.1.now (view c.in_ok-value.value) c.in_ok-value.ensures c.in_ok-put_value.ensures) c.loop-index.invariant

pub returns : goal.returns
returns c =
    let names = c.args.set.now.state.metadata in
    fold_end with_stored no_members (entries names) c.loop-index.index (members_view c.loop-index.members.entries) (omega (arith, len-entries names)) c.loop-index.invariant
