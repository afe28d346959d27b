use Rattle.mb_copy.proofs.Common.{ap, Held, source_patched, tiles_put, ◌∙◌}
use Rattle.mb_copy.proofs.ClearedLemmas.{settled_as}
use Rattle.mb_copy.proofs.PatchedSourceLemmas.{patched_is}
use Rattle.mb_copy.proofs.patched_source.patched_source.Goals as goal

pub returns : goal.returns
returns c =
    settled_as (λ (h : Held). h.state) c.settle.result c.clear_hashes.new.set (source_patched c.args.source.state c.args.patch.now.state)
    (patched_is c.args.source c.in_ok-set.set c.patch_names.new.set c.clear_hashes.new.set c.args.patch.now.state (c.in_ok-set.ensures ∙ ap (λ (h : Held). tiles_put h c.args.patch.now.state.tiles) c.edit.ensures) c.in_ok-patch_names.ensures c.in_ok-clear_hashes.ensures)
    c.settle.ensures
