use Rattle.tile_ids.proofs.NeighbourLemmas.{neighbours}
use Rattle.tile_ids.proofs.laws.consecutive_ids_share_a_side.Goals as goal

pub returns : goal.returns
returns c = neighbours
