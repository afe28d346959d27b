use Rattle.mb_copy.proofs.Common.{arith, entries, is_put_name, len-entries, None, sym, text_cell, [], ◌∙◌, ◌≡◌}
use Rattle.mb_copy.proofs.ClearedLemmas.{all_failing, itself, mapped_itself, one_failing}
use Rattle.mb_copy.proofs.chosen.unput_names.Goals as goal

pub loop-index-preserved : goal.loop-index-preserved
loop-index-preserved c =
    one_failing (is_put_name c.args.copier.now c.args.base.now.state.metadata) itself (λ v. text_cell v ≡ c.metadata_at.result.1.now) (entries c.args.source.now.state.metadata) c.loop-index.index ([], None)
    c.loop-index.unput.items c.add_unput_name.new.unput.items c.metadata_at.result.0.now (omega (arith, len-entries c.args.source.now.state.metadata)) c.metadata_at.ensures c.loop-index.invariant c.in_ok-add_unput_name.ensures

pub returns : goal.returns
returns c =
    sym (mapped_itself c.loop-index.unput.items)
    ∙ all_failing (is_put_name c.args.copier.now c.args.base.now.state.metadata) itself (entries c.args.source.now.state.metadata) c.loop-index.index c.loop-index.unput.items (omega (arith, len-entries c.args.source.now.state.metadata)) c.loop-index.invariant
