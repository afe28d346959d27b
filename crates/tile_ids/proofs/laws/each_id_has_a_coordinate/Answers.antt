use Rattle.tile_ids.proofs.Bijection.{has_id}
use Rattle.tile_ids.proofs.laws.each_id_has_a_coordinate.Goals as goal

pub returns : goal.returns
returns c = has_id
