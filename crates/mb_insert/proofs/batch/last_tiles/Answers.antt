use Rattle.mb_insert.proofs.Common.{empty, entry_of, map, reverse, ◌∙◌}
use Rattle.mb_insert.proofs.ChosenLemmas.{all_in_turn, all_put, by_first, put_in_turn, settled}
use Rattle.mb_insert.proofs.batch.last_tiles.Goals as goal

pub returns : goal.returns
returns c =
    settled c.settle.result c.loop-tile.tiles (by_first (map entry_of (reverse c.args.batch.now)))
    (all_put c.loop-tile.tiles.state.tiles (put_in_turn empty c.args.batch.now) c.args.batch.now c.loop-tile.tile-index c.loop-tile-test.false c.loop-tile.invariant ∙ all_in_turn c.args.batch.now) c.settle.ensures
