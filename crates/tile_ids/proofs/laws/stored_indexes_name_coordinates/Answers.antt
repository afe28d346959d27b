use Rattle.tile_ids.proofs.Indexes.{index_law}
use Rattle.tile_ids.proofs.laws.stored_indexes_name_coordinates.Goals as goal

pub returns : goal.returns
returns c = index_law
