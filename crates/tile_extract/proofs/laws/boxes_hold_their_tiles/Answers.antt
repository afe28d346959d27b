use Rattle.tile_extract.proofs.QuadrantLemmas.{held_by_tile}
use Rattle.tile_extract.proofs.laws.boxes_hold_their_tiles.Goals as goal

pub returns : goal.returns
returns c = held_by_tile
