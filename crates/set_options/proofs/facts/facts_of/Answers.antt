use Rattle.set_options.proofs.Common.{arith, blob_cell, entries, len-entries, no_facts, None, place_at, with_tile, ◌≡◌}
use Rattle.set_options.proofs.FoldLemmas.{fold_at, fold_end}
use Rattle.set_options.proofs.StepLemmas.{tile_step}
use Rattle.set_options.proofs.facts.facts_of.Goals as goal

pub loop-index-preserved : goal.loop-index-preserved
loop-index-preserved c =
    let tiles = c.args.set.now.state.tiles in
    fold_at with_tile no_facts (entries tiles) c.loop-index.index (record { zoom = 0; column = 0; row = 0 }, None) c.loop-index.facts c.with_cell-next.result (λ e. (e.0 ≡ place_at c.tile_at-coord.result.0) × (blob_cell e.1 ≡ c.tile_at-coord.result.1.now))
    (omega (arith, len-entries tiles)) c.tile_at-coord.ensures (tile_step c.loop-index.facts c.with_cell-next.result c.z.result c.tile_at-coord.result.0 c.tile_at-coord.result.1.now c.with_cell-next.ensures c.z.ensures.value) c.loop-index.invariant

pub returns : goal.returns
returns c = fold_end with_tile no_facts (entries c.args.set.now.state.tiles) c.loop-index.index c.loop-index.facts (omega (arith, len-entries c.args.set.now.state.tiles)) c.loop-index.invariant
