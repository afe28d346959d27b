use Rattle.mb_loaded.proofs.Common.{arith, entries, in_hexadecimal, len-entries, ◌∙◌}
use Rattle.mb_loaded.proofs.AggregateLemmas.{tile_hashed, none_hashed, all_hashed}
use Rattle.mb_loaded.proofs.loaded.Loaded.aggregate_by.Goals as goal

pub returns-then-tile_count-eq0 : goal.returns-then-tile_count-eq0
returns-then-tile_count-eq0 c = none_hashed _ c.args.algorithm c.args.self.now.state.tiles (omega arith) c.hash.ensures

pub loop-index-init : goal.loop-index-init
loop-index-init c = rw (← c.in_hexadecimal.ensures) c.new-stream.ensures

pub loop-index-preserved : goal.loop-index-preserved
loop-index-preserved c =
    tile_hashed (in_hexadecimal c.args.algorithm) _ _ (entries c.args.self.now.state.tiles) c.loop-index.index c.tile_at-coord.result.0 c.tile_at-coord.result.1.now (omega (arith, len-entries c.args.self.now.state.tiles))
    c.tile_at-coord.ensures c.hash_tile.ensures c.loop-index.invariant

pub returns : goal.returns
returns c =
    all_hashed _ c.args.algorithm c.args.self.now.state.tiles c.loop-index.index (λ none. c.if-tile_count-eq0.false (c.tile_count.ensures ∙ none)) (omega arith)
    (c.finish.ensures (in_hexadecimal c.args.algorithm) _ c.loop-index.invariant)
