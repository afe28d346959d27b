-- what is left, put one after another over what was put, makes what all make
use Rattle.mb_insert.proofs.Common.{drop, empty, ◌≡◌}
use Rattle.mb_insert.proofs.ChosenLemmas.{put_in_turn}
use Rattle.mb_insert.proofs.batch.last_tiles.Given as goal

abbrev pub invariant-loop-tile : goal.invariant-loop-tile
invariant-loop-tile l = put_in_turn l.tiles.state.tiles (drop l.tile-index l.batch) ≡ put_in_turn empty l.batch
