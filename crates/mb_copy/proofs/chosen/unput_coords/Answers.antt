use Rattle.mb_copy.proofs.Common.{arith, blob_cell, entries, is_put, len-entries, None, place_at, ◌≡◌}
use Rattle.mb_copy.proofs.ClearedLemmas.{all_failing, one_failing}
use Rattle.mb_copy.proofs.chosen.unput_coords.Goals as goal

pub loop-index-preserved : goal.loop-index-preserved
loop-index-preserved c =
    one_failing (is_put c.args.copier.now c.args.source.now.state.tiles c.args.base.now.state) place_at (λ v. blob_cell v ≡ c.tile_at-coord.result.1.now) (entries c.args.source.now.state.tiles) c.loop-index.index (record { zoom = 0; column = 0; row = 0 }, None)
    c.loop-index.unput.items c.add_unput.new.unput.items c.tile_at-coord.result.0 (omega (arith, len-entries c.args.source.now.state.tiles)) c.tile_at-coord.ensures c.loop-index.invariant c.in_ok-add_unput.ensures

pub returns : goal.returns
returns c =
    all_failing (is_put c.args.copier.now c.args.source.now.state.tiles c.args.base.now.state) place_at (entries c.args.source.now.state.tiles) c.loop-index.index c.loop-index.unput.items (omega (arith, len-entries c.args.source.now.state.tiles)) c.loop-index.invariant
