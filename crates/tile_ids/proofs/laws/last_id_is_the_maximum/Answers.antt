use Rattle.tile_ids.proofs.Common.{last_tile}
use Rattle.tile_ids.proofs.Bijection.{id_within}
use Rattle.tile_ids.proofs.laws.last_id_is_the_maximum.Goals as goal

pub returns-clause-taken : goal.returns-clause-taken
returns-clause-taken c = last_tile

pub returns-clause-greatest : goal.returns-clause-greatest
returns-clause-greatest c = id_within
