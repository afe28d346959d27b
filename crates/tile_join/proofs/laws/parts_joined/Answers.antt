use Rattle.tile_join.proofs.PartLemmas.{joins}
use Rattle.tile_join.proofs.laws.parts_joined.Goals as goal

pub returns : goal.returns
returns c = joins
