-- the coordinates so far are those of tiles that aren't put
use Rattle.mb_copy.proofs.Common.{entries, map, place_at, take, unput_places, ◌≡◌}
use Rattle.mb_copy.proofs.chosen.unput_coords.Given as goal

abbrev pub invariant-loop-index : goal.invariant-loop-index
invariant-loop-index l = map place_at l.unput.items ≡ unput_places l.copier l.source.state.tiles l.base.state (take l.index (entries l.source.state.tiles))
