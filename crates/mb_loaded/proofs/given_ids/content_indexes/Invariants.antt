use Rattle.mb_loaded.proofs.Common.{map, take, ◌≡◌}
use Rattle.mb_loaded.proofs.given_ids.content_indexes.Given as goal

abbrev pub invariant-loop-tile : goal.invariant-loop-tile
invariant-loop-tile l = l.indexes.items ≡ map (λ t. t.contents) (take l.tile-index l.tiles)
