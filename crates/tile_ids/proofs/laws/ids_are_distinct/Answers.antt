use Rattle.tile_ids.proofs.Bijection.{one_id}
use Rattle.tile_ids.proofs.laws.ids_are_distinct.Goals as goal

pub returns : goal.returns
returns c = one_id
